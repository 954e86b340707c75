use Rattle.std.proofs.Common.{◌≡◌, map, take}
use Rattle.source_warnings.specs.Jumps.Distances.{sizes_of}
use Rattle.source_warnings.specs.Private.Flat.{sited_of}
use Rattle.source_warnings.proofs.jumps.near.sizes_of.Given as goal

abbrev pub invariant-loop-own : goal.invariant-loop-own
invariant-loop-own l = l.sizes.items ≡ sizes_of (map sited_of (take l.own-index l.statements))
