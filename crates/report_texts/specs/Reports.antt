-- Reports as promises see them.
use Rattle.std.specs.Prelude.{ℕ, Bool, true, false, ◌==◌, ◌&&◌, List, Option, string_bytes}
use Rattle.std.specs.Option.{option_map_or}
use Rattle.std.specs.Str.{bytes_eq}
use Rattle.report_texts.specs.declared.report.Report.{Report}
use Rattle.report_texts.specs.declared.report.Severity.{Severity}
use Rattle.report_texts.specs.declared.report.Where.{Where}

abbrev pub is_error : Severity → Bool
is_error Severity.Error = true
is_error _ = false

-- the place is reported by this line of the source with this number
abbrev pub is_in_line : ℕ → ℕ → Option Where → Bool
is_in_line source line at = option_map_or (λ w. (w.source == source) && (w.reported == line)) at false

-- the report is of an error with this name
abbrev pub bears_name : List ℕ → Report → Bool
bears_name name r = is_error r.severity && bytes_eq (string_bytes r.name) name
