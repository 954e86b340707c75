use Rattle.std.proofs.Common.{◌∙◌}
use Rattle.asm_parse.proofs.Sums.{gap_distance}
use Rattle.asm_parse.proofs.values.layout.Layout.distance.Goals as goal

pub returns-in-Some-Some : goal.returns-in-Some-Some
returns-in-Some-Some c =
    let p = c.in-Some-Some.ensures in
    let q = c.in-Some-Some.ensures' in
    c.gap.ensures ∙ gap_distance c.args.self.now c.args.p c.args.q _ _ p.0 q.0 p.1 q.1
