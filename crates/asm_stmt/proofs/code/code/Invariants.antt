use Rattle.std.proofs.Common.{drop}
use Rattle.asm_stmt.proofs.Each.{Numbered}
use Rattle.asm_stmt.proofs.code.code.Given as goal

abbrev pub invariant-loop-field : goal.invariant-loop-field
invariant-loop-field l = Numbered l.names l.fn.instr l.numbers (drop l.field-index l.numbers) l.coded
