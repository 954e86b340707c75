-- How many bytes the items of DB and DW take. One line has only few.
use Rattle.std.specs.Prelude.{◌≤◌, ℕ, ◌*◌, length}
use Rattle.std.specs.List.{sum_by}
use Rattle.common.specs.declared.limits.TheConstants.{MOST_BYTES}
use Rattle.asm_spell.specs.Line as line
use Rattle.asm_spell.specs.Line.{Body, Value}

-- how many bytes an item of DB takes
abbrev pub value_size : Value → ℕ
value_size (line.Text text) = length text
value_size (line.Byte e) = 1

-- a statement may take this many bytes
abbrev pub IsCount : ℕ → Type 0
IsCount n = (1 ≤ n) × (n ≤ MOST_BYTES)

-- If the statement is DB or DW, it takes a number of bytes that a statement may take.
abbrev pub IsFew : Body → Type 0
IsFew (line.Bytes values) = IsCount (sum_by value_size values)
IsFew (line.Words fields) = IsCount (2 * length fields)
IsFew _ = Unit {0}
