use Rattle.std.proofs.Common.{sym, ◌∙◌, arith}
use Rattle.z80_cpu.specs.State.{machine}
use Rattle.z80_machine.specs.Run.Turns.{none, more}
use Rattle.z80_machine.proofs.runs.run.Goals as goal

pub loop-turns-init : goal.loop-turns-init
loop-turns-init c = none (machine c.args.cpu.now c.args.memory.now)

pub loop-turns-preserved : goal.loop-turns-preserved
loop-turns-preserved c =
    more c.loop-turns.turns (machine c.args.cpu.now c.args.memory.now) (machine c.loop-turns.cpu c.loop-turns.memory)
    (machine c.turn_by_table.new.cpu c.turn_by_table.new.memory)
    c.loop-turns.invariant (sym c.has_beyond.ensures ∙ c.if-has_beyond.false) c.in-Done.ensures.turn

pub returns-in-Undocumented : goal.returns-in-Undocumented
returns-in-Undocumented c = (
  omega (arith, c.loop-turns-test.true),
  (
    machine c.loop-turns.cpu c.loop-turns.memory,
    c.loop-turns.invariant,
    sym c.has_beyond.ensures ∙ c.if-has_beyond.false,
    c.in-Undocumented.ensures.turn,
  ),
)
