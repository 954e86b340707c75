use Rattle.std.proofs.Common.{arith, sym, ◌∙◌}
use Rattle.std.proofs.lemmas.Result.{err_from_is_err_and}
use Rattle.cpm_image.proofs.FirstFault.{sound, start, entry_kept, entry_skipped, refused, marks_before}
use Rattle.cpm_image.proofs.directory.rules.judge.Goals as goal
use Rattle.cpm_image.proofs.directory.rules.judge.Goals.{then-is_extent+in_ok-judge_entry, else-is_extent}

pub loop-number-init : goal.loop-number-init
loop-number-init c = start c.args.kind c.args.entries.now

pub loop-number-preserved : goal.loop-number-preserved
loop-number-preserved c = elim c.if-is_extent.branch [
  | then-is_extent+in_ok-judge_entry w ↦
      let kept = w.in_ok-judge_entry.ensures {u = tt} in
      rw (w.marks-is) (entry_kept c.args.kind _ c.loop-number.invariant c.loop-number-test.true (sym c.is_extent.ensures ∙ w.if-is_extent.true) kept.judged kept.marked)
  | else-is_extent w ↦ rw (w.marks-is) (entry_skipped c.args.kind _ c.loop-number.invariant c.loop-number-test.true (sym c.is_extent.ensures ∙ w.if-is_extent.false))
]

pub judge_entry-requires-clause-marks : goal.judge_entry-requires-clause-marks
judge_entry-requires-clause-marks c = marks_before c.args.kind c.loop-number.invariant

pub returns-in_err-judge_entry-clause-judged : goal.returns-in_err-judge_entry-clause-judged
returns-in_err-judge_entry-clause-judged c =
    let p = err_from_is_err_and c.from_residual.result c.from_residual.ensures.1 in
    rw (p.1, p.2) (refused c.args.kind _ _ c.loop-number.invariant c.loop-number-test.true (sym c.is_extent.ensures ∙ c.if-is_extent.true) (c.in_err-judge_entry.ensures {u = tt}).judged)

pub returns-clause-judged : goal.returns-clause-judged
returns-clause-judged c = sound c.args.kind c.args.entries.now (λ k h. c.loop-number.invariant.kept k (omega arith))
