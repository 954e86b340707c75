use Rattle.std.proofs.Common.{◌∙◌, ◌∷◌, [], ap}
use Rattle.std.specs.List.{list_any}
use Rattle.std.proofs.lemmas.List.Folds.{list_any-append}
use Rattle.report_texts.specs.Reports.{bears_name}
use Rattle.link_errors.specs.Names.{link_name}
use Rattle.report_texts.proofs.Counting.{last_is, or_true}
use Rattle.link_errors.proofs.linking.put_plain.Goals as goal

pub returns : goal.returns
returns c =
    let has = bears_name (link_name c.args.fault.now) in
    ap (list_any has) c.in_ok-push.ensures.items ∙ list_any-append has c.args.reports.now.items (c.in_ok-report.report ∷ [])
    ∙ or_true (list_any has c.args.reports.now.items) (list_any has (c.in_ok-report.report ∷ [])) (last_is has c.in_ok-report.report c.in_ok-report.ensures)
