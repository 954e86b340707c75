-- Names as they are printed.
use Rattle.std.proofs.Common.{◌≡◌, refl, ℕ, Bool, true, false, List, Bor, Result, Ok, Err, ap, ◌∙◌, sym}
use Rattle.std.specs.Prelude.{codes, if◌then◌else◌}
use Rattle.std.specs.Result.{MatchResult, result_unwrap_or}
use Rattle.std.specs.Str.{IsUtf8, is_utf8}
use Rattle.std.proofs.lemmas.Str.{IsUtf8-from_is_utf8, is_utf8-from_IsUtf8}
use Rattle.source_warnings.specs.Texts.{printed_name}

by_test : (name : List ℕ) (b : Bool) → is_utf8 name ≡ b → printed_name name ≡ (if b then name else codes "?")
by_test name b e = ap (λ (k : Bool). if k then name else codes "?") e

not_utf8 : (name : List ℕ) (b : Bool) → is_utf8 name ≡ b → ¬ IsUtf8 name → b ≡ false
not_utf8 name true e isnt = absurd (isnt (IsUtf8-from_is_utf8 name e))
not_utf8 name false e isnt = refl

-- the text that `from_utf8` gave of a name, or a question mark
pub printed : {E : Type 0} (r : Result (Bor (List ℕ)) E) (name : List ℕ) (other : Bor (List ℕ)) (Q : E → Type 0) → other.now ≡ codes "?"
    → MatchResult r (λ s. (s.now ≡ name) × IsUtf8 name) (λ e. ¬ IsUtf8 name × Q e) → (result_unwrap_or r other).now ≡ printed_name name
printed (Ok s) name other Q is cases = cases.0 ∙ sym (by_test name true (is_utf8-from_IsUtf8 name cases.1))
printed (Err e) name other Q is cases = is ∙ sym (by_test name false (not_utf8 name (is_utf8 name) refl cases.0))
