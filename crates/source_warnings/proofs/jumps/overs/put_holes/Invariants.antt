use Rattle.std.proofs.Common.{◌≡◌, ◌++◌, take}
use Rattle.std.specs.List.{filter_map, flat_map}
use Rattle.source_warnings.specs.Jumps.Offsets.{offsets}
use Rattle.source_warnings.specs.Private.Flat.{placed_of}
use Rattle.source_warnings.specs.Jumps.Warnings.{over}
use Rattle.source_warnings.proofs.jumps.overs.put_holes.Given as goal

abbrev pub invariant-loop-hole : goal.invariant-loop-hole
invariant-loop-hole l =
    l.found.items ≡ l.fn.found.items ++ flat_map (λ h. filter_map (over l.jumps (placed_of l.placed) l.site) (offsets h.value)) (take l.hole-index l.holes)
