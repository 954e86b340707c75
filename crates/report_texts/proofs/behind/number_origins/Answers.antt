use Rattle.std.proofs.Common.{get_or, ap, arith, ◌∙◌}
use Rattle.zlink.specs.declared.origins.Origin.{Origin}
use Rattle.report_texts.specs.Behind.{earlier_origin}
use Rattle.report_texts.proofs.Numbers.{all_changed, next_changed}
use Rattle.report_texts.proofs.behind.number_origins.Goals as goal

pub loop-origin-preserved : goal.loop-origin-preserved
loop-origin-preserved c = λ all counts.
    let d : Origin = record { place = 0; source = 0; line = 0 } in
    let from : Origin = get_or c.loop-origin.origins c.loop-origin.origin-index d in
    next_changed (earlier_origin all) c.args.origins.now c.loop-origin.origins c.loop-origin.origin-index d (record from { line = c.own_line-origin.result })
    c.loop-origin-test.true (c.loop-origin.invariant all counts) (ap (λ line. record from { line = line }) (c.own_line-origin.ensures all counts))

pub returns : goal.returns
returns c = λ all counts. c.loop-origin.invariant all counts ∙ all_changed (earlier_origin all) c.args.origins.now c.loop-origin.origin-index (omega arith)
