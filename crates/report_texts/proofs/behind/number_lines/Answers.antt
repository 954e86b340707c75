use Rattle.std.proofs.Common.{arith, ◌∙◌}
use Rattle.report_texts.specs.Front.{earlier}
use Rattle.report_texts.proofs.Numbers.{all_changed, next_changed}
use Rattle.report_texts.proofs.behind.number_lines.Goals as goal

pub loop-number-preserved : goal.loop-number-preserved
loop-number-preserved c = λ all counts.
    next_changed (earlier all) c.args.numbers.now c.loop-number.numbers c.loop-number.number-index 0 c.own_line.result c.loop-number-test.true (c.loop-number.invariant all counts)
    (c.own_line.ensures all counts)

pub returns : goal.returns
returns c = λ all counts. c.loop-number.invariant all counts ∙ all_changed (earlier all) c.args.numbers.now c.loop-number.number-index (omega arith)
