use Rattle.std.proofs.Common.{ap, ◌∙◌}
use Rattle.z80_table.specs.Reading.{read}
use Rattle.z80_machine.proofs.Readings.{turn_unread}
use Rattle.z80_cpu.specs.State.{machine}
use Rattle.z80_machine.proofs.turn.turn_decoded.Goals as goal

pub returns-in-Err : goal.returns-in-Err
returns-in-Err c =
    turn_unread (machine c.args.cpu.now c.args.memory.now) _ c.decode.result (c.decode.ensures.table ∙ ap read c.fetch-bytes.ensures.bytes) c.in-Err.is
