use Rattle.std.proofs.Common.{◌≡◌, ◌++◌, map, drop}
use Rattle.zmo_object.specs.Modules.{module_of}
use Rattle.program_map.specs.Reasons.Programs.{sites_from}
use Rattle.program_map.proofs.reasons.program.all_sites.Given as goal

-- What is there and what the other modules add is all.
abbrev pub invariant-loop-number : goal.invariant-loop-number
invariant-loop-number l = l.sites.items ++ sites_from l.number (map module_of (drop l.number l.modules)) ≡ sites_from 0 (map module_of l.modules)
