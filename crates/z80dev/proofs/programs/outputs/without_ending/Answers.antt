use Rattle.std.proofs.Common.{◌∙◌, ◌-◌, ap, arith, cond, sym, take}
use Rattle.z80dev.specs.Outputs.{before_last_point}
use Rattle.z80dev.proofs.Last_point.{front, last_point}
use Rattle.z80dev.proofs.programs.outputs.without_ending.Goals as goal

pub returns-in-Some : goal.returns-in-Some
returns-in-Some c =
    let path = c.args.path.now in
    let point = c.in-Some.point in
    let up_to = ap (λ n. take n path) {x = point - 0} {y = point} (omega arith) in
    let shown = front path point c.range.result.now c.range_from.result.now c.is_ending.result (c.range.ensures.value ∙ up_to) c.range_from.ensures.value c.is_ending.ensures in
    let whole = ap (before_last_point path) (last_point path _ c.rfind.ensures.cases ∙ c.in-Some.is) ∙ shown ∙ ap (λ b. cond b (take point path) path) c.if-is_ending.true in
    c.range-in-Some.ensures.value ∙ up_to ∙ sym whole

pub returns-in_default : goal.returns-in_default
returns-in_default c =
    let path = c.args.path.now in
    let point = c.in-Some.point in
    let up_to = ap (λ n. take n path) {x = point - 0} {y = point} (omega arith) in
    let shown = front path point c.range.result.now c.range_from.result.now c.is_ending.result (c.range.ensures.value ∙ up_to) c.range_from.ensures.value c.is_ending.ensures in
    sym (ap (before_last_point path) (last_point path _ c.rfind.ensures.cases ∙ c.in-Some.is) ∙ shown ∙ ap (λ b. cond b (take point path) path) c.if-is_ending.false)

pub returns-in_default-2 : goal.returns-in_default-2
returns-in_default-2 c = sym (ap (before_last_point c.args.path.now) (last_point c.args.path.now _ c.rfind.ensures.cases ∙ c.in_default.is))
