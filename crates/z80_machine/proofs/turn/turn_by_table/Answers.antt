use Rattle.z80_machine.proofs.Readings.{known, is_turn}
use Rattle.z80_cpu.specs.State.{machine}
use Rattle.z80_machine.proofs.turn.turn_by_table.Goals as goal

pub returns-clause-turn : goal.returns-clause-turn
returns-clause-turn g c =
    is_turn c.reading.ensures.found c.reading.ensures.only (machine c.args.cpu.now c.args.memory.now) _ c.turn_of.result c.has_bytes.ensures (rw c.get-opcode.ensures.byte at c.turn_of.ensures)

pub returns-clause-known : goal.returns-clause-known
returns-clause-known g c =
    known c.reading.ensures.only (machine c.args.cpu.now c.args.memory.now) _ c.turn_of.result (rw c.get-opcode.ensures.byte at c.turn_of.ensures)
