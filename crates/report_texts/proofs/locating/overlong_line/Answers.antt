use Rattle.std.proofs.Common.{◌≡◌, ◌≤◌, ap, arith, length, min}
use Rattle.std.proofs.lemmas.List.{length-take}
use Rattle.common.specs.declared.limits.TheConstants.{LONGEST_TEXT}
use Rattle.report_texts.proofs.locating.overlong_line.Goals as goal

pub overflow_cast-result : goal.overflow_cast-result
overflow_cast-result c =
    let some = ap length c.first_bytes.ensures in
    omega (arith, c.line_ends.ensures.few, some, length-take LONGEST_TEXT c.args.text.now)

pub overflow_add-result : goal.overflow_add-result
overflow_add-result c =
    let some = ap length c.first_bytes.ensures in
    omega (arith, c.line_ends.ensures.few, some, length-take LONGEST_TEXT c.args.text.now)
