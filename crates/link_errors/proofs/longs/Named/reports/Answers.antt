use Rattle.std.proofs.Common.{◌∙◌, ap, arith, length, subst, take}
use Rattle.std.specs.List.{AllZip}
use Rattle.std.proofs.lemmas.List.{take_all}
use Rattle.report_texts.proofs.In_order.{one_more}
use Rattle.link_errors.specs.Longs.{IsLongNote}
use Rattle.link_errors.proofs.longs.Named.reports.Goals as goal

pub loop-jump-preserved : goal.loop-jump-preserved
loop-jump-preserved c =
    one_more IsLongNote c.args.jumps.now c.loop-jump.jump-index c.jump-item.result c.loop-jump.reports.items c.push.new.self.items c.in_ok-report.report c.loop-jump-test.true c.loop-jump.invariant
    (subst (λ j. IsLongNote j c.in_ok-report.report) c.jump-item.is c.in_ok-report.ensures) c.in_ok-push.ensures.items

pub returns : goal.returns
returns c =
    subst (λ js. AllZip IsLongNote js c.loop-jump.reports.items) (take_all c.loop-jump.jump-index c.args.jumps.now (omega (arith, c.loop-jump-test.false))) c.loop-jump.invariant
