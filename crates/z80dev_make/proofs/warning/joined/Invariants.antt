use Rattle.std.proofs.Common.{◌≡◌, ◌++◌, drop, map}
use Rattle.std.specs.List.{zip}
use Rattle.source_warnings.specs.Jumps.Parts.{member_of}
use Rattle.z80dev_make.specs.Private.Shown.{member_with}
use Rattle.z80dev_make.proofs.warning.joined.Given as goal

-- The modules so far and those that are left are all modules.
abbrev pub invariant-loop-number : goal.invariant-loop-number
invariant-loop-number l = map member_of l.parts.items ++ map member_with (zip (drop l.number l.modules) (drop l.number l.links)) ≡ map member_with (zip l.modules l.links)
