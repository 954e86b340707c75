use Rattle.std.proofs.Common.{◌≡◌, ◌+◌, ◌%◌, map, drop}
use Rattle.std.specs.List.{sum_by}
use Rattle.asm_spell.specs.Few.{value_size}
use Rattle.asm_spell.specs.Line.{value_of}
use Rattle.asm_stmt.proofs.size.bytes_size.Given as goal

abbrev pub invariant-loop-value : goal.invariant-loop-value
invariant-loop-value l = (l.size + sum_by value_size (map value_of (drop l.value-index l.values))) % 65536 ≡ sum_by value_size (map value_of l.values) % 65536
