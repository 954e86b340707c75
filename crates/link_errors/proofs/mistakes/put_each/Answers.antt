use Rattle.std.proofs.Common.{ℕ, ◌≡◌, ◌∙◌, ◌+◌, ap, arith, get_or, length, sym, take}
use Rattle.std.specs.List.{sum_by}
use Rattle.std.proofs.Math.Seq.{take-length}
use Rattle.source_warnings.specs.Warnings.{warning_of}
use Rattle.source_warnings.specs.declared.warning.SourceWarning.{SourceWarning}
use Rattle.link_errors.specs.Counts.{is_behind, one_if}
use Rattle.report_texts.proofs.Counting.{add_behind, counts_one, counts_through}
use Rattle.link_errors.proofs.mistakes.put_each.Goals as goal

pub loop-warning-preserved : goal.loop-warning-preserved
loop-warning-preserved c =
    let has : SourceWarning → ℕ = λ w. one_if (is_behind c.args.sources.now.before (warning_of w)) in
    let first = length c.args.reports.now.items in
    let found = c.args.found.now in
    let k = c.loop-warning.warning-index in
    c.in_ok-put_warning.ensures ∙ ap (λ w. length c.loop-warning.reports.items + has w) c.warning-item.is ∙ ap (λ n. n + has (get_or found k c.warning-item.result)) c.loop-warning.invariant ∙ add_behind first (sum_by has (take k found)) (has (get_or found k c.warning-item.result))
    ∙ ap (λ n. first + n) (sym (counts_one has found k c.warning-item.result (omega (arith, c.loop-warning-test.true))))

pub returns : goal.returns
returns c =
    let before = c.args.sources.now.before in
    let has : SourceWarning → ℕ = λ w. one_if (is_behind before (warning_of w)) in
    let first = length c.args.reports.now.items in
    let found = c.args.found.now in
    let all : c.loop-warning.warning-index ≡ length found = omega (arith, c.loop-warning-test.false, c.loop-warning.auto.warning-index-end) in
    c.loop-warning.invariant ∙ ap (λ xs. first + sum_by has xs) (ap (λ k. take k found) all ∙ take-length found)
    ∙ ap (λ n. first + n) (sym (counts_through (λ w. one_if (is_behind before w)) warning_of found))
