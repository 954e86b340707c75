use Rattle.std.proofs.Common.{◌≡◌, ◌++◌, length}
use Rattle.std.specs.List.{filter_map}
use Rattle.source_warnings.specs.Jumps.Offsets.{offsets}
use Rattle.source_warnings.specs.Private.Flat.{placed_of}
use Rattle.source_warnings.specs.Jumps.Warnings.{over}
use Rattle.source_warnings.proofs.jumps.overs.put_items.Given as goal

-- The warnings so far and those about the items that are left are all warnings.
abbrev pub invariant-loop-rest : goal.invariant-loop-rest
invariant-loop-rest l =
    l.found.items ++ filter_map (over l.jumps (placed_of l.placed) l.site) (offsets l.rest) ≡ l.fn.found.items ++ filter_map (over l.jumps (placed_of l.placed) l.site) (offsets l.items)

abbrev pub decreases-loop-rest : goal.decreases-loop-rest
decreases-loop-rest l = length l.rest
