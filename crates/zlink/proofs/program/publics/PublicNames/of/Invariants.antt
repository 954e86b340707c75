use Rattle.zlink.proofs.Programs.Going_on.{Gives}
use Rattle.zlink.proofs.program.publics.PublicNames.of.Given as goal

abbrev pub invariant-loop-number : goal.invariant-loop-number
invariant-loop-number l = Gives l.modules l.number l.base l.names
