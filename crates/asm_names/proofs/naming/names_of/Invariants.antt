use Rattle.asm_names.proofs.TakenUp.{IsAt}
use Rattle.asm_names.proofs.naming.names_of.Given as goal

abbrev pub invariant-loop-at : goal.invariant-loop-at
invariant-loop-at l = IsAt l.lines l.at l.naming
