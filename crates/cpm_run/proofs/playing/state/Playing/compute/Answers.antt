use Rattle.std.proofs.Common.{refl, arith}
use Rattle.z80_cpu.specs.State.{machine}
use Rattle.z80_machine.specs.Types.{Step}
use Rattle.z80_machine.specs.declared.runs.Stop.{Stop}
use Rattle.cpm_run.specs.declared.ending.Why.{Why}
use Rattle.cpm_run.specs.Play.PlaysOn.{goes}
use Rattle.cpm_run.specs.Private.Playing.{state_of}
use Rattle.cpm_run.proofs.Going.{ran_as}
use Rattle.cpm_run.proofs.Looking.{ended_on, paused_on}
use Rattle.cpm_run.proofs.Sitting.{ended_by, paused}
use Rattle.cpm_run.proofs.playing.state.Playing.compute.Goals as goal

pub returns-in-Halted-clause-goes : goal.returns-in-Halted-clause-goes
returns-in-Halted-clause-goes g c = λ start shown before.
    let old = machine c.args.self.now.cpu c.args.self.now.memory in
    let new = machine c.run-made.new.cpu c.run-made.new.memory in
    let made = ran_as c.args.most c.run-made.result.0 c.run-made.result.1 Stop.Halted old new c.in-Halted.is c.run-made.ensures in
    ended_by _ _ c.run-made.result.0 Step.Halted Why.Halted start (state_of c.args.self.now shown) new refl before made.1

pub returns-in-Undocumented-clause-goes : goal.returns-in-Undocumented-clause-goes
returns-in-Undocumented-clause-goes g c = λ start shown before.
    let old = machine c.args.self.now.cpu c.args.self.now.memory in
    let new = machine c.run-made.new.cpu c.run-made.new.memory in
    let made = ran_as c.args.most c.run-made.result.0 c.run-made.result.1 Stop.Undocumented old new c.in-Undocumented.is c.run-made.ensures in
    ended_by _ _ c.run-made.result.0 Step.Undocumented Why.Undocumented start (state_of c.args.self.now shown) new refl before made.1

pub returns-in_default-clause-goes : goal.returns-in_default-clause-goes
returns-in_default-clause-goes g c = λ start shown before.
    let old = machine c.args.self.now.cpu c.args.self.now.memory in
    let new = machine c.run-made.new.cpu c.run-made.new.memory in
    goes c.run-made.result.0 start (state_of c.args.self.now shown) _ before (paused _ _ c.args.most c.run-made.result.0 c.run-made.result.1 old new c.args.self.now.bdos c.run-made.ensures (c.in_default.not-Halted, c.in_default.not-Undocumented))

pub returns-in-Halted-clause-looks : goal.returns-in-Halted-clause-looks
returns-in-Halted-clause-looks g c = λ start shown a attends none soon held.
    let old = machine c.args.self.now.cpu c.args.self.now.memory in
    let new = machine c.run-made.new.cpu c.run-made.new.memory in
    let made = ran_as c.args.most c.run-made.result.0 c.run-made.result.1 Stop.Halted old new c.in-Halted.is c.run-made.ensures in
    ended_on _ _ c.run-made.result.0 Step.Halted Why.Halted old new start (state_of c.args.self.now shown) c.args.self.now.bdos a refl none (let m = made.0 in omega (arith, soon, m)) held attends made.1

pub returns-in-Undocumented-clause-looks : goal.returns-in-Undocumented-clause-looks
returns-in-Undocumented-clause-looks g c = λ start shown a attends none soon held.
    let old = machine c.args.self.now.cpu c.args.self.now.memory in
    let new = machine c.run-made.new.cpu c.run-made.new.memory in
    let made = ran_as c.args.most c.run-made.result.0 c.run-made.result.1 Stop.Undocumented old new c.in-Undocumented.is c.run-made.ensures in
    ended_on _ _ c.run-made.result.0 Step.Undocumented Why.Undocumented old new start (state_of c.args.self.now shown) c.args.self.now.bdos a refl none (let m = made.0 in omega (arith, soon, m)) held attends made.1

pub returns-in_default-clause-looks : goal.returns-in_default-clause-looks
returns-in_default-clause-looks g c = λ start shown a attends none soon held.
    let old = machine c.args.self.now.cpu c.args.self.now.memory in
    let new = machine c.run-made.new.cpu c.run-made.new.memory in
    paused_on _ _ c.args.most c.run-made.result.0 c.run-made.result.1 old new start (state_of c.args.self.now shown) c.args.self.now.bdos a none soon held attends c.run-made.ensures (c.in_default.not-Halted, c.in_default.not-Undocumented)
