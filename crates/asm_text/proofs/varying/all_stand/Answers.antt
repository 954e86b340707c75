use Rattle.std.proofs.Common.{◌≤◌, ◌<◌, inl, inr, ap, sym, subst, arith, ℕ, length, Some, All, take}
use Rattle.std.specs.List.{Contains}
use Rattle.std.proofs.lemmas.List.{take_all}
use Rattle.std.proofs.lemmas.List.Elements.{All-contains, All-more, All-same}
use Rattle.asm_text.specs.Stands.{Stands}
use Rattle.asm_text.specs.Prepared.{said}
use Rattle.asm_text.proofs.varying.all_stand.Goals as goal

pub loop-next-preserved : goal.loop-next-preserved
loop-next-preserved c =
    let P : ℕ → Type 0 = λ k. c.args.span.at ≤ k → k < c.args.span.end → k < length c.args.lines.now → Stands c.args.lines.now (Some (said c.args.call.now)) k in
    All-more P c.asked_places-places.result.now c.loop-next.next 0 (omega (arith, c.loop-next-test.true)) c.loop-next.invariant (c.in_ok-stands.ensures c.if-not-branch.false)

pub returns : goal.returns
returns c = λ yes k after before within.
    let P : ℕ → Type 0 = λ k. c.args.span.at ≤ k → k < c.args.span.end → k < length c.args.lines.now → Stands c.args.lines.now (Some (said c.args.call.now)) k in
    let varying = c.args.call.now.varying.value in
    let same = c.deref-varying.ensures in
    let places = c.asked_places-places.result.now in
    let from : varying.at ≤ k = omega (arith, after, c.if-span-varying.false, ap (λ v. v.at) same) in
    let to : k < varying.end = omega (arith, before, c.if-varying-span.false, ap (λ v. v.end) same) in
    let over : length places ≤ c.loop-next.next = omega (arith, c.loop-next-test.false) in
    let read : All P places = All-same P places (take c.loop-next.next places) (sym (take_all c.loop-next.next places over)) c.loop-next.invariant in
    elim (c.requires k from to within) [
      | inl there ↦ All-contains P places k read (subst (λ ps. Contains ps k) (sym c.asked_places-places.ensures) there) after before within
      | inr stands ↦ stands
    ]
