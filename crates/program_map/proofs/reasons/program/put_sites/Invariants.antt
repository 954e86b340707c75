use Rattle.std.proofs.Common.{◌≡◌, ◌++◌}
use Rattle.program_map.specs.Reasons.Programs.{sites_of}
use Rattle.program_map.proofs.reasons.program.put_sites.Given as goal

abbrev pub invariant-loop-statement : goal.invariant-loop-statement
invariant-loop-statement l = l.sites.items ≡ l.initial.sites.items ++ sites_of l.number l.statement
