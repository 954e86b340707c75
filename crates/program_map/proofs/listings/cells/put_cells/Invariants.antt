use Rattle.std.proofs.Common.{◌≡◌, ◌+◌, ◌++◌, drop, map}
use Rattle.program_map.specs.Private.Runs.{bytes_from, cell_of}
use Rattle.program_map.proofs.listings.cells.put_cells.Given as goal

-- The bytes so far and those that are left are all bytes.
abbrev pub invariant-loop-index : goal.invariant-loop-index
invariant-loop-index l =
    l.cells.items ++ map (cell_of l.source l.line) (bytes_from (l.first + l.index) (drop l.index l.value-items))
    ≡ l.initial.cells.items ++ map (cell_of l.source l.line) (bytes_from l.first l.value-items)
