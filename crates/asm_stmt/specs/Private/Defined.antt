-- The test whether each name in the operands stands for something.
use Rattle.std.specs.Prelude.{Bool, true, ◌&&◌, Option, Some, None, is_some}
use Rattle.std.specs.List.{list_all}
use Rattle.asm_expr.specs.Names.{Table, found}
use Rattle.asm_expr.specs.Settling.{is_known}
use Rattle.asm_spell.specs.Line as line
use Rattle.asm_spell.specs.Line.{Body, ExpressionItems, Value}

abbrev pub is_defined : Table → ExpressionItems → Bool
is_defined t e = list_all (is_known t) e

abbrev pub value_defined : Table → Value → Bool
value_defined t (line.Text text) = true
value_defined t (line.Byte e) = is_defined t e

abbrev pub fill_defined : Table → Option ExpressionItems → Bool
fill_defined t None = true
fill_defined t (Some e) = is_defined t e

abbrev pub operands_defined : Table → Body → Bool
operands_defined t (line.Code instr numbers) = list_all (λ n. is_defined t n.1) numbers
operands_defined t (line.Jump condition target) = is_some (found t target)
operands_defined t (line.Short branch target) = is_some (found t target)
operands_defined t (line.Bytes values) = list_all (value_defined t) values
operands_defined t (line.Words fields) = list_all (is_defined t) fields
operands_defined t (line.Space size fill) = is_defined t size && fill_defined t fill
operands_defined t (line.Origin e) = is_defined t e
operands_defined t _ = true
