use Rattle.std.proofs.Common.{◌≡◌, ◌++◌, drop, map}
use Rattle.std.specs.List.{enumerate_from, filter_map}
use Rattle.source_warnings.specs.Private.Flat.{placed_of, sited_of}
use Rattle.source_warnings.specs.Jumps.Warnings.{entries_in, entry_warning}
use Rattle.source_warnings.proofs.jumps.entries.put_entries.Given as goal

-- The warnings so far and those about the statements that are left are all warnings.
abbrev pub invariant-loop-k : goal.invariant-loop-k
invariant-loop-k l =
    l.found.items ++ filter_map (entry_warning (map placed_of l.placed) (map sited_of l.statements)) (enumerate_from l.k (map sited_of (drop l.k l.statements)))
    ≡ l.fn.found.items ++ entries_in (map placed_of l.placed) (map sited_of l.statements)
