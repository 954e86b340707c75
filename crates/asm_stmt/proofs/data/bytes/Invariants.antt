use Rattle.std.proofs.Common.{map, drop}
use Rattle.asm_spell.specs.Line.{value_of}
use Rattle.asm_stmt.specs.Made.{value_cells}
use Rattle.asm_stmt.proofs.Each.{Reads}
use Rattle.asm_stmt.proofs.data.bytes.Given as goal

abbrev pub invariant-loop-value : goal.invariant-loop-value
invariant-loop-value l = Reads (value_cells l.names) (map value_of l.values) (map value_of (drop l.value-index l.values)) l.laid
