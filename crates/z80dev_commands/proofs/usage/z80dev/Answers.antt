use Rattle.std.proofs.Common.{codes}
use Rattle.z80dev_commands.specs.Commands.{blank_shape, check_disk_shape, debug_shape, play_shape, protect_shape, run_shape, with_files}
use Rattle.z80dev_commands.proofs.Builders.{with_made}
use Rattle.z80dev_commands.proofs.usage.z80dev.Goals as goal

pub returns : goal.returns
returns c =
    let one = with_made _ _ _ with_files (protect_shape (codes "protect")) c.with_files.ensures.app c.protect.ensures.app c.protect.ensures.local c.with_command-command.ensures in
    let two = with_made _ _ _ _ (protect_shape (codes "unprotect")) one c.unprotect.ensures.app c.unprotect.ensures.local c.with_command-command-2.ensures in
    let three = with_made _ _ _ _ check_disk_shape two c.check_disk.ensures.app c.check_disk.ensures.local c.with_command-command-3.ensures in
    let four = with_made _ _ _ _ blank_shape three c.blank.ensures.app c.blank.ensures.local c.with_command-command-4.ensures in
    let five = with_made _ _ _ _ run_shape four c.run.ensures.app c.run.ensures.local c.with_command-command-5.ensures in
    let six = with_made _ _ _ _ debug_shape five c.debug.ensures.app c.debug.ensures.local c.with_command-command-6.ensures in
    record { app = with_made _ _ _ _ play_shape six c.play.ensures.app c.play.ensures.local c.with_command.ensures }
