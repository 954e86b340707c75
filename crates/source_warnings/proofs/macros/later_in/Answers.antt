use Rattle.std.proofs.Common.{arith}
use Rattle.source_warnings.specs.Macros.{line_defines_again}
use Rattle.source_warnings.proofs.Steps.{line_more}
use Rattle.source_warnings.proofs.macros.later_in.Goals as goal

pub loop-at-preserved : goal.loop-at-preserved
loop-at-preserved c =
    line_more (line_defines_again c.args.macros.now) c.args.lines.now c.loop-at.at c.loop-at.later c.note_later.new.later _ (omega (arith, c.len-at-end.ensures)) (rw c.line.ensures at c.in_ok-note_later.ensures) c.loop-at.invariant
