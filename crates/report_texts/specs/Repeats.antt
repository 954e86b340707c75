-- Which reports are of one error. The lines of the front are before each source, so an error that is written in one of them is in each source.
use Rattle.std.specs.Prelude.{◌≡◌, ℕ, Bool, false, ◌==◌, ◌&&◌, List, [], ◌∷◌, ◌++◌, Option, None, Some, if◌then◌else◌, map, nat_le, nat_lt, string_bytes}
use Rattle.std.specs.List.{list_any}
use Rattle.std.specs.Str.{bytes_eq}
use Rattle.std.specs.Char.{to_ascii_uppercase}
use Rattle.report_texts.specs.declared.report.Report.{Report}
use Rattle.report_texts.specs.declared.report.Where.{Where}

-- an error that is written in the front: its line, its name, and what is said of it, with all letters in upper case
pub record FrontError : Type 0 where
  pub line : ℕ
  pub name : List ℕ
  pub text : List ℕ

-- a line of the front: one of the first `before` lines. Lines are counted from 1.
abbrev pub is_front_line : ℕ → ℕ → Bool
is_front_line before line = nat_lt 0 line && nat_le line before

abbrev pub error_at : ℕ → Report → Option Where → Option FrontError
error_at before r None = None
error_at before r (Some at) =
    if is_front_line before at.written then Some (record { line = at.written; name = string_bytes r.name; text = map to_ascii_uppercase (string_bytes r.text) }) else None

-- this of an error that is written in a line of the front. Any other error repeats none.
abbrev pub front_error : ℕ → Report → Option FrontError
front_error before r = error_at before r r.at

-- two errors of the front are one error if they are written in the same line, have the same name, and the same is said of them
abbrev pub is_same : FrontError → FrontError → Bool
is_same e other = (e.line == other.line) && (bytes_eq e.name other.name && bytes_eq e.text other.text)

abbrev pub are_same : Option FrontError → Option FrontError → Bool
are_same (Some e) (Some other) = is_same e other
are_same _ _ = false

-- a report is of the same error of the front as an earlier one
abbrev pub is_repeat : ℕ → Report → Report → Bool
is_repeat before r earlier = are_same (front_error before r) (front_error before earlier)

-- reports without those that repeat an earlier one, given those that came before them
abbrev pub without_repeats : ℕ → List Report → List Report → List Report
without_repeats before earlier [] = []
without_repeats before earlier (r ∷ more) =
    (if list_any (is_repeat before r) earlier then [] else r ∷ []) ++ without_repeats before (earlier ++ r ∷ []) more

-- none of the reports repeats an earlier one
abbrev pub HasNoRepeats : ℕ → List Report → Type 0
HasNoRepeats before [] = Unit {0}
HasNoRepeats before (r ∷ more) = (list_any (λ later. is_repeat before later r) more ≡ false) × HasNoRepeats before more
