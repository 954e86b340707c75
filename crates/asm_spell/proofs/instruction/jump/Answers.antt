use Rattle.asm_spell.specs.Spelling.{jump_to, target_by}
use Rattle.asm_spell.specs.Private.Cutting.{holds}
use Rattle.asm_spell.proofs.Read.{no_jump}
use Rattle.asm_spell.proofs.instruction.jump.Goals as goal

pub returns-in-None : goal.returns-in-None
returns-in-None c = no_jump (jump_to c.args.instr) (target_by (holds c.args.last.now)) c.in-None.ensures
