use Rattle.std.proofs.Common.{ap, ◌∙◌, ◌+◌, ◌*◌, ◌/◌, ◌%◌, ◌<◌, arith}
use Rattle.cpm_image.specs.Skew.{sector}
use Rattle.cpm_image.proofs.Places.{distinct, steps_of_six}
use Rattle.cpm_image.proofs.skew.logical.Goals as goal

pub returns : goal.returns
returns c =
    let n = c.number-number.result in
    let below : n % 26 < 26 = omega arith in
    let place = steps_of_six (n % 26) below in
    record {
      sector = ap (λ k. 26 * (2 + n / 26) + k) place ∙ ap sector c.number-number.ensures;
      behind_system = omega arith;
      within = omega (arith, c.number-number.ensures, c.requires);
      distinct = λ m below_m same. distinct m c.args.logical_record below_m c.requires same;
    }
