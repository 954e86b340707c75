use Rattle.std.proofs.Common.{◌∙◌, ap}
use Rattle.std.specs.List.{concat}
use Rattle.std.proofs.lemmas.Result.{IfOk-weaker}
use Rattle.z80dev_disk.proofs.Lists.{flattened}
use Rattle.z80dev_disk.proofs.image.image_bytes.Goals as goal

pub returns : goal.returns
returns c = IfOk-weaker c.from_slice.result _ _ (λ bytes is. is ∙ c.as_flattened.ensures.value ∙ flattened c.sectors.result.now ∙ ap concat c.sectors.ensures) c.from_slice.ensures.items
