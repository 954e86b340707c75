use Rattle.z80dev.proofs.laws.running.walk.Goals as goal
use Rattle.z80dev.proofs.Turning.{walks, one_run}

pub returns-clause-run : goal.returns-clause-run
returns-clause-run c = walks c.turn_of_instruction.ensures c.length.ensures.most

pub returns-clause-only : goal.returns-clause-only
returns-clause-only c = λ file program choice n old new other reads valid w run.
    one_run c.one_turn.ensures n old other new run (walks c.turn_of_instruction.ensures c.length.ensures.most file program choice n old new reads valid w)
