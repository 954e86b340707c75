use Rattle.z80dev_disk.proofs.Done_changes.{erased}
use Rattle.z80dev_disk.proofs.changing.erase_one.Goals as goal

pub returns-in-Ok-clause-erased : goal.returns-in-Ok-clause-erased
returns-in-Ok-clause-erased c = erased c.args.disk.now c.erase.new.self c.args.user c.of_any_extent.result.name c.args.pattern.now c.in-Ok.field-0 c.of_any_extent.ensures c.in-Ok.ensures.done c.in-Ok.ensures.gone c.in-Ok.ensures.others c.in-Ok.ensures.sound
