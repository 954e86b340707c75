use Rattle.asm_text.proofs.Line_ends.{Found}
use Rattle.asm_text.proofs.lines.Lines.of.Given as goal

abbrev pub invariant-loop-line : goal.invariant-loop-line
invariant-loop-line l = record {
  can_next : (goal.iterator-loop-line).can_next l.line-iterator;
  finite : (goal.iterator-loop-line).is_finite l.line-iterator;
  found : Found l.text l.ends.items l.end l.line-iterator;
}
