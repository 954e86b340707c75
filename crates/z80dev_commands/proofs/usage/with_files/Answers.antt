use Rattle.z80dev_commands.specs.Commands.{dir_shape, erase_shape, get_shape, programs, put_shape, rename_shape}
use Rattle.z80dev_commands.proofs.Builders.{with_made}
use Rattle.z80dev_commands.proofs.usage.with_files.Goals as goal

pub returns : goal.returns
returns c =
    let one = with_made _ _ _ programs dir_shape c.programs.ensures.app c.dir.ensures.app c.dir.ensures.local c.with_command-command.ensures in
    let two = with_made _ _ _ _ put_shape one c.put.ensures.app c.put.ensures.local c.with_command-command-2.ensures in
    let three = with_made _ _ _ _ get_shape two c.get.ensures.app c.get.ensures.local c.with_command-command-3.ensures in
    let four = with_made _ _ _ _ erase_shape three c.erase.ensures.app c.erase.ensures.local c.with_command-command-4.ensures in
    record { app = with_made _ _ _ _ rename_shape four c.rename.ensures.app c.rename.ensures.local c.with_command.ensures }
