use Rattle.std.proofs.Common.{◌+◌, ◌-◌, inl, inr, refl, sym, ◌∙◌, arith, None, Some}
use Rattle.z80_cpu.specs.State.{machine}
use Rattle.z80_machine.specs.Types.{Step}
use Rattle.z80_machine.specs.declared.runs.Stop.{Stop}
use Rattle.cpm_run.specs.declared.ending.Why.{Why}
use Rattle.cpm_run.specs.Turns.Goes.{none, more}
use Rattle.cpm_run.proofs.Going.{at, ended, goes_to, none_of, ran_as, turn_as}
use Rattle.cpm_run.proofs.running.turns_of.Goals as goal

pub loop-cpu-init : goal.loop-cpu-init
loop-cpu-init g c = (omega arith, none (at (machine c.args.cpu.now c.args.memory.now) c.args.bdos.now))

pub returns-in-Halted : goal.returns-in-Halted
returns-in-Halted g c =
    let ran = ran_as (c.args.limit - c.loop-cpu.turns) c.run-made.result.0 c.run-made.result.1 Stop.Halted (machine c.loop-cpu.cpu c.loop-cpu.memory) (machine c.run-made.new.cpu c.run-made.new.memory) c.in-Halted.is c.run-made.ensures in
    ended _ _ _ c.args.limit c.loop-cpu.turns c.run-made.result.0 Step.Halted Why.Halted (at (machine c.args.cpu.now c.args.memory.now) c.args.bdos.now) c.loop-cpu.bdos refl c.loop-cpu.invariant.0 c.loop-cpu.invariant.1 ran.0 ran.1

pub returns-in-Undocumented : goal.returns-in-Undocumented
returns-in-Undocumented g c =
    let ran = ran_as (c.args.limit - c.loop-cpu.turns) c.run-made.result.0 c.run-made.result.1 Stop.Undocumented (machine c.loop-cpu.cpu c.loop-cpu.memory) (machine c.run-made.new.cpu c.run-made.new.memory) c.in-Undocumented.is c.run-made.ensures in
    ended _ _ _ c.args.limit c.loop-cpu.turns c.run-made.result.0 Step.Undocumented Why.Undocumented (at (machine c.args.cpu.now c.args.memory.now) c.args.bdos.now) c.loop-cpu.bdos refl c.loop-cpu.invariant.0 c.loop-cpu.invariant.1 ran.0 ran.1

pub returns-then-is_finished : goal.returns-then-is_finished
returns-then-is_finished g c =
    let so_far = goes_to _ _ _ c.args.limit c.loop-cpu.turns c.run-made.result.0 c.run-made.result.1 (at (machine c.args.cpu.now c.args.memory.now) c.args.bdos.now) c.loop-cpu.bdos c.loop-cpu.invariant.0 c.loop-cpu.invariant.1 c.run-made.ensures (c.in_default.not-Halted, c.in_default.not-Undocumented) in
    inl (so_far.1, so_far.0, sym c.is_finished.ensures ∙ c.if-is_finished.true, refl)

pub returns-then-turns-limit : goal.returns-then-turns-limit
returns-then-turns-limit g c =
    let so_far = goes_to _ _ _ c.args.limit c.loop-cpu.turns c.run-made.result.0 c.run-made.result.1 (at (machine c.args.cpu.now c.args.memory.now) c.args.bdos.now) c.loop-cpu.bdos c.loop-cpu.invariant.0 c.loop-cpu.invariant.1 c.run-made.ensures (c.in_default.not-Halted, c.in_default.not-Undocumented) in
    inr (inl (so_far.1, c.if-turns-limit.true, sym c.is_finished.ensures ∙ c.if-is_finished.false, refl))

pub returns-in-Some : goal.returns-in-Some
returns-in-Some g c =
    let so_far = goes_to _ _ _ c.args.limit c.loop-cpu.turns c.run-made.result.0 c.run-made.result.1 (at (machine c.args.cpu.now c.args.memory.now) c.args.bdos.now) c.loop-cpu.bdos c.loop-cpu.invariant.0 c.loop-cpu.invariant.1 c.run-made.ensures (c.in_default.not-Halted, c.in_default.not-Undocumented) in
    inr (inr (
      c.loop-cpu.turns + c.run-made.result.0,
      at (machine c.run-made.new.cpu c.run-made.new.memory) c.loop-cpu.bdos,
      refl,
      omega (arith, so_far.0, c.if-turns-limit.false),
      so_far.1,
      sym c.is_finished.ensures ∙ c.if-is_finished.false,
      turn_as _ _ _ c.turn.result (Some c.in-Some.why) (at (machine c.run-made.new.cpu c.run-made.new.memory) c.loop-cpu.bdos) (at (machine c.turn.new.cpu c.turn.new.memory) c.turn.new.bdos) c.in-Some.is c.turn.ensures,
    ))

pub loop-cpu-preserved : goal.loop-cpu-preserved
loop-cpu-preserved g c =
    let so_far = goes_to _ _ _ c.args.limit c.loop-cpu.turns c.run-made.result.0 c.run-made.result.1 (at (machine c.args.cpu.now c.args.memory.now) c.args.bdos.now) c.loop-cpu.bdos c.loop-cpu.invariant.0 c.loop-cpu.invariant.1 c.run-made.ensures (c.in_default.not-Halted, c.in_default.not-Undocumented) in (
      omega (arith, so_far.0, c.if-turns-limit.false),
      more (c.loop-cpu.turns + c.run-made.result.0) _ (at (machine c.run-made.new.cpu c.run-made.new.memory) c.loop-cpu.bdos) (at (machine c.turn.new.cpu c.turn.new.memory) c.turn.new.bdos) so_far.1 (sym c.is_finished.ensures ∙ c.if-is_finished.false)
          (turn_as _ _ _ c.turn.result None (at (machine c.run-made.new.cpu c.run-made.new.memory) c.loop-cpu.bdos) (at (machine c.turn.new.cpu c.turn.new.memory) c.turn.new.bdos) (none_of c.turn.result c.in_default-turn.not-Some) c.turn.ensures),
    )
