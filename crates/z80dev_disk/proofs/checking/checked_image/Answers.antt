use Rattle.std.proofs.Common.{IfSome, ◌∙◌, ap, inl, subst, sym}
use Rattle.cpm_disk.specs.Image.{directory}
use Rattle.z80dev_disk.specs.Check.{checked, first_broken_rule}
use Rattle.z80dev_disk.specs.Refusals.{IsRefusalOf, RefusesNone}
use Rattle.z80dev_disk.proofs.Checked.{refuses}
use Rattle.z80dev_disk.proofs.checking.checked_image.Goals as goal

pub returns : goal.returns
returns c =
    let (calm, (kind, count, are)) = c.in_ok-broken.ensures.done in
    let image = c.in_ok-image.image in
    let answer_is = c.in_ok-checked.ensures.answer ∙ ap checked c.deref.ensures.value in
    let refusal_is = c.in_ok-checked.ensures.refusal ∙ ap first_broken_rule c.deref.ensures.value in (
      subst (λ o. IfSome o (IsRefusalOf RefusesNone)) (sym refusal_is) (refuses kind (directory kind image) c.in_ok-broken.broken.items are),
      inl (kind, image, c.in_ok-image.ensures, count, (c.in_ok-broken.broken.items, are, answer_is)),
    )
