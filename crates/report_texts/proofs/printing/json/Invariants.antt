use Rattle.std.proofs.Common.{◌≡◌, ◌++◌, drop}
use Rattle.std.specs.List.{flat_map}
use Rattle.report_texts.specs.Json.{json_report_line}
use Rattle.report_texts.proofs.printing.json.Given as goal

abbrev pub invariant-loop-report : goal.invariant-loop-report
invariant-loop-report l = l.out.items ++ flat_map (json_report_line l.files) (drop l.report-index l.reports) ≡ flat_map (json_report_line l.files) l.reports
