use Rattle.std.proofs.Common.{◌≡◌, ◌<◌, ◌+◌, ◌-◌, ◌∙◌, subst, sym, ap, refl, arith, length, drop, Some}
use Rattle.asm_text.specs.declared.ends.Ends.{Ends}
use Rattle.asm_text.specs.Nesting.Blocks.{between, branch_lengths}
use Rattle.asm_text.specs.Private.Nesting.{if_length}
use Rattle.asm_text.proofs.Nesting.Walked.{Walking, branches_found, branches_inside, branches_lost, step, walk, walked}
use Rattle.asm_text.proofs.links.Links.branches.Goals as goal

pub returns-then-last-min-clause-is : goal.returns-then-last-min-clause-is
returns-then-last-min-clause-is c =
    branches_lost c.args.self.now c.args.from c.args.to c.ends-ends.result c.ends-ends.ensures (λ h. omega (arith, h, c.if-last-min.true, c.min.ensures, c.len.ensures))

pub loop-at-init : goal.loop-at-init
loop-at-init c =
    let less : c.ends-ends.result.last < length c.args.self.now = omega (arith, c.if-last-min.false, c.min.ensures, c.len.ensures) in
    let at = walk c.args.self.now c.args.from c.ends-ends.result.last c.ends-ends.result.next (branch_lengths 0 0 (drop c.args.from c.args.self.now)) refl
    (ap (λ (e : Ends). e.next) c.ends-ends.ensures) (ap (λ (e : Ends). e.last) c.ends-ends.ensures) less in
    (at.0, at.1, at.2, at.3, subst (λ xs. Walking c.args.self.now c.ends-ends.result.next c.ends-ends.result.last xs at.0.1) (sym c.new-others.ensures.items) at.4)

pub loop-at-preserved : goal.loop-at-preserved
loop-at-preserved c =
    let now = c.loop-at.invariant in
    let more = step c.args.self.now c.loop-at.at c.ends-ends.result.last c.ends-next.result.next c.loop-at.others.items now.0.1 now.4 c.loop-at-test.true
    (ap (λ (e : Ends). e.next) c.ends-next.ensures) in
    (now.0, now.1, now.2, now.3, subst (λ xs. Walking c.args.self.now c.ends-next.result.next c.ends-ends.result.last xs now.0.1) (sym c.in_ok-push.ensures.items) more.2)

answer : (c : goal.After-loop-at) → Some (c.ends-ends.result.next - c.args.from, c.loop-at.others.items) ≡ branch_lengths 0 0 (between c.args.from c.args.to c.args.self.now)
answer c =
    let now = c.loop-at.invariant in
    let others = walked c.args.self.now c.loop-at.at c.ends-ends.result.last c.loop-at.others.items now.0.1 now.4 c.loop-at-test.false in
    let first : c.ends-ends.result.next - c.args.from ≡ now.0.0 = omega (arith, now.2) in
    let last : c.args.from + if_length now.0 < c.args.to = omega (arith, now.3, c.if-last-min.false, c.min.ensures, c.len.ensures) in
    ap (λ n. Some (n, c.loop-at.others.items)) first ∙ ap (λ xs. Some (now.0.0, xs)) others ∙ branches_found c.args.self.now c.args.from c.args.to now.0 now.1 last

pub returns-clause-is : goal.returns-clause-is
returns-clause-is c = answer c

pub returns-clause-within : goal.returns-clause-within
returns-clause-within c = branches_inside (between c.args.from c.args.to c.args.self.now) (c.ends-ends.result.next - c.args.from, c.loop-at.others.items) (answer c)
