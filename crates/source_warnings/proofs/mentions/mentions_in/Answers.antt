use Rattle.std.proofs.Common.{arith}
use Rattle.source_warnings.specs.Mentions.{line_mentions}
use Rattle.source_warnings.proofs.Steps.{line_more}
use Rattle.source_warnings.proofs.mentions.mentions_in.Goals as goal

pub loop-at-preserved : goal.loop-at-preserved
loop-at-preserved c =
    line_more line_mentions c.args.lines.now c.loop-at.at c.loop-at.mentions c.note_line.new.mentions _ (omega (arith, c.len-at-end.ensures)) (rw c.line.ensures at c.in_ok-note_line.ensures) c.loop-at.invariant
