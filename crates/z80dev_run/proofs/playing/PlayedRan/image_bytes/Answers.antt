use Rattle.std.proofs.Common.{◌∙◌, ap}
use Rattle.std.specs.List.{concat}
use Rattle.z80dev_disk.proofs.Lists.{flattened}
use Rattle.z80dev_run.proofs.playing.PlayedRan.image_bytes.Goals as goal

pub returns : goal.returns
returns c = c.as_flattened.ensures.value ∙ flattened c.sectors.result.now ∙ ap concat c.sectors.ensures
