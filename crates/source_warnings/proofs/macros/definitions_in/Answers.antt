use Rattle.std.proofs.Common.{arith}
use Rattle.source_warnings.specs.Macros.{line_defines}
use Rattle.source_warnings.proofs.Steps.{line_more}
use Rattle.source_warnings.proofs.macros.definitions_in.Goals as goal

pub loop-at-preserved : goal.loop-at-preserved
loop-at-preserved c =
    line_more line_defines c.args.lines.now c.loop-at.at c.loop-at.macros c.note_definition.new.macros _ (omega (arith, c.len-at-end.ensures)) (rw c.line.ensures at c.in_ok-note_definition.ensures) c.loop-at.invariant
