use Rattle.std.proofs.Common.{◌++◌, ◌∙◌, ap, ap₂, sym}
use Rattle.cpm_disk.specs.Calls.{Mounted}
use Rattle.cpm_disk.specs.Image.{Image}
use Rattle.z80dev_disk.specs.Get.{copied_record}
use Rattle.z80dev_disk.proofs.Lists.{one_more}
use Rattle.z80dev_disk.proofs.getting.copied_below.Goals as goal

pub loop-number-preserved : goal.loop-number-preserved
loop-number-preserved c =
    let (same, so_far) = c.loop-number.invariant in
    let user = c.args.user in
    let name = c.args.name.now in
    let number = c.loop-number.number in
    let here = c.copied.ensures.bytes ∙ ap (λ (d : Mounted Image). copied_record d.kind d.device user name number) same in (
      c.copied.ensures.same ∙ same,
      c.in_ok-extend_from_slice.ensures.items ∙ ap₂ (λ xs ys. xs ++ ys) so_far here ∙ sym (one_more (copied_record c.args.disk.now.kind c.args.disk.now.device user name) number),
    )
