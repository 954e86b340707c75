use Rattle.std.proofs.Common.{◌≡◌, map}
use Rattle.asm_spell.specs.Faults.{each}
use Rattle.asm_spell.specs.Private.Cutting.{left, behind}
use Rattle.asm_spell.proofs.Pieces.{room}
use Rattle.asm_spell.proofs.cut.each_left.Given as goal

-- The operands read so far, and then those that are left, are all operands.
abbrev pub invariant-loop-left : goal.invariant-loop-left
invariant-loop-left g l = each g.T.Operand.reads (left l.tokens) ≡ behind (map g.T.Operand.seen l.all.items) (each g.T.Operand.reads (left l.left))

abbrev pub decreases-loop-left : goal.decreases-loop-left
decreases-loop-left g l = room l.left
