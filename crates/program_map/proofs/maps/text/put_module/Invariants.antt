use Rattle.std.proofs.Common.{◌≡◌, ◌++◌, drop, map}
use Rattle.std.specs.List.{flat_map}
use Rattle.program_map.specs.Mapped.{mapped_module_of}
use Rattle.program_map.specs.Named.{named_of}
use Rattle.program_map.specs.Text.{module_rows, public_row}
use Rattle.program_map.proofs.maps.text.put_module.Given as goal

-- The rows so far and those of the names that are left are all rows.
abbrev pub invariant-loop-name : goal.invariant-loop-name
invariant-loop-name l = l.out.items ++ flat_map public_row (map named_of (drop l.name-index l.name-items)) ≡ l.fn.out.items ++ module_rows l.tells_data (mapped_module_of l.fn.«module»)
