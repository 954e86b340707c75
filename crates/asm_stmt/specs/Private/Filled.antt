-- What fills a field other than a distance, given the value of its expression.
use Rattle.std.specs.Prelude.{Result, Ok}
use Rattle.asm_expr.specs.declared.answer.Settled.{Settled}
use Rattle.z80_form.specs.declared.field.Field.{Field}
use Rattle.asm_spell.specs.declared.fault.StmtFault.{StmtFault}
use Rattle.asm_stmt.specs.declared.cell.Filling.{Filling}
use Rattle.asm_stmt.specs.Fields.{byte, fixed, word_filling}

abbrev pub filled_by : Field → Settled → Result Filling StmtFault
filled_by Field.Byte settled = byte settled
filled_by Field.Word settled = Ok (word_filling settled)
filled_by field settled = fixed field settled
