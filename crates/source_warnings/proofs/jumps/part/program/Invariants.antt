use Rattle.std.proofs.Common.{◌≡◌, map, take}
use Rattle.std.specs.List.{flat_map}
use Rattle.source_warnings.specs.Jumps.Parts.{sited}
use Rattle.source_warnings.specs.Private.Flat.{placed_of, sited_of}
use Rattle.source_warnings.proofs.jumps.part.program.Given as goal

abbrev pub invariant-loop-own : goal.invariant-loop-own
invariant-loop-own l = map sited_of l.sited.items ≡ flat_map sited (map placed_of (take l.own-index l.placed))
