-- Which report is of an error of a source.
use Rattle.std.specs.Prelude.{ℕ, Bool, ◌&&◌, string_bytes}
use Rattle.std.specs.Str.{bytes_eq}
use Rattle.asm_module.specs.declared.fault.AsmFault.{AsmFault}
use Rattle.report_texts.specs.Faults.Names.{why_name}
use Rattle.report_texts.specs.declared.report.Report.{Report}
use Rattle.report_texts.specs.Reports.{is_error, is_in_line}

-- the report is of this error of the source with this number: of its line, by its name
abbrev pub is_report_of : ℕ → AsmFault → Report → Bool
is_report_of source fault r = is_error r.severity && (is_in_line source fault.line r.at && bytes_eq (string_bytes r.name) (why_name fault.why))
