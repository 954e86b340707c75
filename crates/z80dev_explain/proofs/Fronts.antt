-- A report without a place repeats no other.
use Rattle.std.proofs.Common.{◌≡◌, ◌∙◌, ◌||◌, ap, refl, ℕ, false, List, [], ◌∷◌, ◌++◌, None}
use Rattle.std.specs.List.{list_any}
use Rattle.std.proofs.lemmas.List.Folds.{list_any-append}
use Rattle.report_texts.specs.declared.report.Report.{Report}
use Rattle.report_texts.specs.Repeats.{HasNoRepeats, are_same, error_at, front_error, is_repeat}

repeats_none : (before : ℕ) (r earlier : Report) → r.at ≡ None → is_repeat before r earlier ≡ false
repeats_none before r earlier none = ap (λ at. are_same (error_at before r at) (front_error before earlier)) none

pub placeless_repeats_none : (before : ℕ) (reports : List Report) (r : Report) → r.at ≡ None → HasNoRepeats before reports → HasNoRepeats before (reports ++ r ∷ [])
placeless_repeats_none before [] r none distinct = (refl, tt)
placeless_repeats_none before (x ∷ more) r none distinct = (
  list_any-append (λ later. is_repeat before later x) more (r ∷ []) ∙ ap (λ b. b || list_any (λ later. is_repeat before later x) (r ∷ [])) distinct.0
      ∙ ap (λ b. b || false) (repeats_none before r x none),
  placeless_repeats_none before more r none distinct.1,
)
