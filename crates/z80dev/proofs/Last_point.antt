-- The last point of a path.
use Rattle.std.proofs.Common.{◌≡◌, ◌≢◌, ◌<◌, ◌≤◌, ◌∙◌, ◌⊎◌, ℕ, zero, suc, List, Option, Some, None, MatchOption, refl, sym, ap, ap₂, Bool, cond, drop, take, get_or, length, arith, eq-eqb, ne_eqb, ⊎_elim}
use Rattle.std.proofs.lemmas.Bool.{cases_eq, cond-true, cond-false}
use Rattle.std.proofs.lemmas.Str.Pattern.{rfind_char}
use Rattle.std.specs.Path.{dot, rfind_below}
use Rattle.std.specs.Str.{IsCharBoundary}
use Rattle.std.specs.Str.Pattern.{RFindsChar}
use Rattle.z80dev.specs.Outputs.{before_last_point, begins_ending}

none_below : (c : ℕ) (text : List ℕ) (n : ℕ) → ((i : ℕ) → i < n → get_or text i 0 ≢ c) → rfind_below c text n ≡ None
none_below c text zero lacks = refl
none_below c text (suc n) lacks = cond-false _ _ _ (ne_eqb _ c (lacks n (omega arith))) ∙ none_below c text n (λ i below. lacks i (omega arith))

some_below : (c : ℕ) (text : List ℕ) (k n : ℕ) → k < n → get_or text k 0 ≡ c → ((i : ℕ) → k < i → i < n → get_or text i 0 ≢ c) → rfind_below c text n ≡ Some k
some_below c text k zero below at lacks = absurd (omega arith)
some_below c text k (suc n) below at lacks =
    ⊎_elim
    (λ e. cond-true _ _ _ (eq-eqb _ c (ap (λ j. get_or text j 0) (sym e) ∙ at)) ∙ ap (λ j. Some j) (sym e))
    (λ other. cond-false _ _ _ (ne_eqb _ c (lacks n (omega arith) (omega arith))) ∙ some_below c text k n (omega arith) at (λ i after below. lacks i after (omega arith)))
    (cases_eq k n)

-- what `rfind` answers
pub last_point : (text : List ℕ) (r : Option ℕ) → MatchOption r (RFindsChar 46 text None) (λ i. (j : ℕ) × RFindsChar 46 text (Some (i, j)) × (i ≤ j) × IsCharBoundary text i × IsCharBoundary text j)
    → rfind_below dot text (length text) ≡ r
last_point text None finds = none_below 46 text (length text) (rfind_char 46 text None finds (omega arith))
last_point text (Some k) finds =
    let at = rfind_char 46 text (Some k) finds (omega arith) in
    some_below 46 text k (length text) at.0 at.1 at.2

-- what comes before a point, by what its two halves are
pub front : (path : List ℕ) (point : ℕ) (before rest : List ℕ) (b : Bool) → before ≡ take point path → rest ≡ drop point path → b ≡ begins_ending before rest
    → before_last_point path (Some point) ≡ cond b (take point path) path
front path point before rest b was is begins = ap (λ x. cond x (take point path) path) (ap₂ begins_ending (sym was) (sym is) ∙ sym begins)
