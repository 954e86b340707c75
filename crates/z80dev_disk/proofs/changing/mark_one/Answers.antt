use Rattle.z80dev_disk.proofs.Done_changes.{marked}
use Rattle.z80dev_disk.proofs.changing.mark_one.Goals as goal

pub returns-in-Ok-clause-marked : goal.returns-in-Ok-clause-marked
returns-in-Ok-clause-marked c = marked c.args.disk.now c.mark.new.self c.args.user c.args.attribute c.args.on c.of_any_extent.result.name c.args.pattern.now c.in-Ok.field-0 c.of_any_extent.ensures c.in-Ok.ensures.done c.in-Ok.ensures.marked c.in-Ok.ensures.others c.in-Ok.ensures.sound
