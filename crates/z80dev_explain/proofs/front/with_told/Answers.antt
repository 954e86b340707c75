use Rattle.std.proofs.Common.{◌≡◌, [], ◌∷◌, ◌++◌, rules, subst, sym}
use Rattle.report_texts.specs.Repeats.{HasNoRepeats}
use Rattle.z80dev_explain.proofs.Fronts.{placeless_repeats_none}
use Rattle.z80dev_explain.proofs.front.with_told.Goals as goal

pub returns-clause-distinct : goal.returns-clause-distinct
returns-clause-distinct c before distinct =
    let report = c.in_ok-plain_report.field-0 in
    let items : c.push.new.self.items ≡ c.args.reports.items ++ report ∷ [] = search (rules, c.in_ok-push.ensures.items) in
    subst (HasNoRepeats before) (sym items) (placeless_repeats_none before c.args.reports.items report c.in_ok-plain_report.ensures.placeless distinct)
