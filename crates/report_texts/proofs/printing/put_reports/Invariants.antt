use Rattle.std.proofs.Common.{◌≡◌, ◌++◌, drop}
use Rattle.std.specs.List.{flat_map}
use Rattle.report_texts.specs.Printed.{report_text}
use Rattle.report_texts.proofs.printing.put_reports.Given as goal

abbrev pub invariant-loop-report : goal.invariant-loop-report
invariant-loop-report l = l.out.items ++ flat_map (report_text l.files l.form) (drop l.report-index l.reports) ≡ l.fn.out.items ++ flat_map (report_text l.files l.form) l.reports
