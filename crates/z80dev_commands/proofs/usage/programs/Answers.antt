use Rattle.z80dev_commands.specs.Commands.{asm_shape, bare, build_shape, check_shape, dis_shape, explain_shape, link_shape}
use Rattle.z80dev_commands.proofs.Builders.{with_made}
use Rattle.z80dev_commands.proofs.usage.programs.Goals as goal

pub returns : goal.returns
returns c =
    let one = with_made _ _ _ bare asm_shape c.bare.ensures.app c.asm.ensures.app c.asm.ensures.local c.with_command-command.ensures in
    let two = with_made _ _ _ _ link_shape one c.link.ensures.app c.link.ensures.local c.with_command-command-2.ensures in
    let three = with_made _ _ _ _ build_shape two c.build.ensures.app c.build.ensures.local c.with_command-command-3.ensures in
    let four = with_made _ _ _ _ explain_shape three c.explain.ensures.app c.explain.ensures.local c.with_command-command-4.ensures in
    let five = with_made _ _ _ _ check_shape four c.check.ensures.app c.check.ensures.local c.with_command-command-5.ensures in
    record { app = with_made _ _ _ _ dis_shape five c.dis.ensures.app c.dis.ensures.local c.with_command.ensures }
