use Rattle.std.proofs.Common.{◌≡◌, ◌++◌, drop, map}
use Rattle.source_warnings.specs.Jumps.Parts.{member_of, placed_modules, modules_from}
use Rattle.source_warnings.specs.Private.Flat.{placed_of}
use Rattle.source_warnings.proofs.jumps.part.place_all.Given as goal

-- The modules so far and those that are left are all modules.
abbrev pub invariant-loop-number : goal.invariant-loop-number
invariant-loop-number l = map placed_of l.placed.items ++ modules_from l.number l.base (map member_of (drop l.number l.parts)) ≡ placed_modules (map member_of l.parts)
