use Rattle.std.proofs.Common.{ℕ, ◌≡◌, ◌∙◌, ◌+◌, ◌++◌, ◌∷◌, [], ap, arith, length, refl, subst, sym, take}
use Rattle.std.specs.List.{AllZip, sum_by}
use Rattle.std.proofs.Math.Seq.{take-length}
use Rattle.zlink.specs.declared.source.Source.{Source}
use Rattle.report_texts.proofs.In_order.{one_more}
use Rattle.link_errors.specs.Counts.{HasWarnings}
use Rattle.report_texts.proofs.Counting.{add_behind, adds_one}
use Rattle.link_errors.proofs.mistakes.put_mistakes.Goals as goal

pub loop-number-preserved : goal.loop-number-preserved
loop-number-preserved c =
    let has : Source → ℕ → Type 0 = λ s n. HasWarnings c.args.sources.now.before s.text.now n in
    let first = length c.args.reports.now.items in
    let behind = c.args.behind.now in
    let was = c.loop-number.invariant in
    let put = c.in_ok-put_source.ensures in
    let counts = was.0 in
    let count = put.0 in (
      counts ++ count ∷ [],
      one_more has behind c.loop-number.number _ counts (counts ++ count ∷ []) count (omega (arith, c.loop-number-test.true)) was.1 put.1 refl,
      put.2 ∙ ap (λ n. n + count) was.2 ∙ add_behind first (sum_by (λ n. n) counts) count ∙ ap (λ n. first + n) (sym (adds_one (λ n. n) counts count)),
    )

pub returns : goal.returns
returns c =
    let has : Source → ℕ → Type 0 = λ s n. HasWarnings c.args.sources.now.before s.text.now n in
    let behind = c.args.behind.now in
    let was = c.loop-number.invariant in
    let all : c.loop-number.number ≡ length behind = omega (arith, c.loop-number-test.false, c.loop-number.auto.number-end) in
    (was.0, subst (λ xs. AllZip has xs was.0) (ap (λ k. take k behind) all ∙ take-length behind) was.1, was.2)
