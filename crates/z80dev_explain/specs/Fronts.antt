-- When reports are of the error for which a front is refused. Building prints this error as `PATH(LINE): NAME`, and in a definition as
-- `--define WORD: NAME`.
use Rattle.std.specs.Prelude.{◌≡◌, ◌⊎◌, ℕ, Bool, true, false, ◌==◌, ◌&&◌, List, [], Option, None, Some, codes, string_bytes}
use Rattle.std.specs.List.{list_any}
use Rattle.std.specs.Str.{bytes_eq}
use Rattle.report_texts.specs.Faults.Names.{why_name}
use Rattle.report_texts.specs.Faults.Refusals.{told_text}
use Rattle.report_texts.specs.Front.{CountsLines, front_lines, own_place}
use Rattle.report_texts.specs.Repeats.{HasNoRepeats}
use Rattle.report_texts.specs.Reports.{is_error}
use Rattle.report_texts.specs.declared.faults.refusal.Refusal.{Refusal}
use Rattle.report_texts.specs.declared.faults.refusal.Refusal.TheVariants as refusal
use Rattle.report_texts.specs.declared.faults.refusal.Told.{Told}
use Rattle.report_texts.specs.declared.front.Front.{Front}
use Rattle.report_texts.specs.declared.report.Report.{Report}
use Rattle.report_texts.specs.declared.report.Where.{Where}

abbrev pub is_line_of : List ℕ → ℕ → List ℕ × ℕ → Bool
is_line_of path line own = bytes_eq own.0 path && (own.1 == line)

-- The place is in this line of the file with this path, as the file counts its lines. A definition counts as line 1 of its word.
abbrev pub is_placed_at : Front → List ℕ → ℕ → Option Where → Bool
is_placed_at front path line None = false
is_placed_at front path line (Some w) = is_line_of path line (own_place front [] w.reported)

abbrev pub has_name : List ℕ → Report → Bool
has_name name r = bytes_eq (string_bytes r.name) name

-- the report has the place and the name of a refusal, whose path or word is given
abbrev pub is_refusal : Front → List ℕ → Refusal → Report → Bool
is_refusal front path (refusal.Source fault) r = is_placed_at front path fault.line r.at && has_name (why_name fault.why) r
is_refusal front path (refusal.NotShared line) r = is_placed_at front path line r.at && has_name (codes "NotShared") r
is_refusal front word (refusal.Define why) r = is_placed_at front word 1 r.at && has_name (why_name why) r
is_refusal front path _ r = false

-- the report is of the error for which a front is refused
abbrev pub is_told : Front → Told → Report → Bool
is_told front told r = is_error r.severity && is_refusal front told.path.now told.refusal r

-- an error whose name is the whole text of a refusal
abbrev pub is_whole : Told → Report → Bool
is_whole told r = is_error r.severity && has_name (told_text told) r

-- one of the reports is of the error for which the front is refused, or has its whole text as a name
abbrev pub HasTold : Front → Told → List Report → Type 0
HasTold front told reports = (list_any (is_told front told) reports ≡ true) ⊎ (list_any (is_whole told) reports ≡ true)

-- The reports for a front that is refused: one of them is of the error for which it is refused, and no two are of one error.
abbrev pub AreFrontErrors : Front → Told → List Report → Type 0
AreFrontErrors front told reports = HasTold front told reports × ((before : ℕ) × CountsLines before (front_lines front) × HasNoRepeats before reports)
