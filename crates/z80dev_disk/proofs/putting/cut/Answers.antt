use Rattle.std.proofs.Common.{◌≡◌, ◌==◌, ◌≤◌, ◌∙◌, arith, false, length, subst, sym}
use Rattle.std.specs.Prelude.{◌≢◌}
use Rattle.std.proofs.lemmas.Bool.{eqb-false}
use Rattle.z80dev_disk.proofs.Lists.{cut_off}
use Rattle.z80dev_disk.proofs.putting.cut.Goals as goal

pub returns : goal.returns
returns c =
    let (short, front, back) = cut_off c.args.rest.now c.min.result c.min.ensures in
    let tested : (length c.args.rest.now == 0) ≡ false = sym c.is_empty.ensures ∙ c.if-is_empty.false in
    let some : length c.args.rest.now ≢ 0 = eqb-false (length c.args.rest.now) 0 tested in
    (omega (arith, some), subst (λ p. length p ≤ 128) (sym c.split_at.ensures.front) short, c.split_at.ensures.front ∙ front, c.split_at.ensures.back ∙ back)
