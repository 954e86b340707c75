use Rattle.cpm_run.proofs.Looking.{step_on}
use Rattle.cpm_run.proofs.Sitting.{went}
use Rattle.cpm_run.specs.Private.Playing.{state_of}
use Rattle.cpm_run.proofs.playing.state.Playing.take_turn.Goals as goal

pub returns-clause-goes : goal.returns-clause-goes
returns-clause-goes g c = λ start shown before. went _ _ c.turn-end.result start (state_of c.args.self.now shown) _ before c.requires.running c.turn-end.ensures

pub returns-clause-looks : goal.returns-clause-looks
returns-clause-looks g c = λ start shown a attends may. step_on _ _ c.turn-end.result start (state_of c.args.self.now shown) _ a attends c.requires.running may c.turn-end.ensures
