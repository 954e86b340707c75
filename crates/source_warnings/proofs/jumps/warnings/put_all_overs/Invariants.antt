use Rattle.std.proofs.Common.{◌≡◌, ◌++◌, drop, map}
use Rattle.std.specs.List.{flat_map}
use Rattle.source_warnings.specs.Private.Flat.{placed_of}
use Rattle.source_warnings.specs.Jumps.Warnings.{overs_in}
use Rattle.source_warnings.proofs.jumps.warnings.put_all_overs.Given as goal

-- The warnings so far and those about the modules that are left are all warnings.
abbrev pub invariant-loop-own : goal.invariant-loop-own
invariant-loop-own l =
    l.found.items ++ flat_map (overs_in l.jumps) (map placed_of (drop l.own-index l.placed)) ≡ l.fn.found.items ++ flat_map (overs_in l.jumps) (map placed_of l.placed)
