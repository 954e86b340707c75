use Rattle.zlink.specs.Program.Faults.{unresolved}
use Rattle.zlink.proofs.Programs.Going_on.{Links_so_far}
use Rattle.zlink.proofs.program.joining.all_links.Given as goal

abbrev pub invariant-loop-number : goal.invariant-loop-number
invariant-loop-number l = Links_so_far l.modules l.names (unresolved l.names) l.number l.base l.links.items
