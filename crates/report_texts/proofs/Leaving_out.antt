-- Reports of which those that repeat an earlier one are left out.
use Rattle.std.proofs.Common.{◌≡◌, ◌∙◌, ◌||◌, ap, refl, sym, ℕ, Bool, true, false, not, if◌then◌else◌, List, [], ◌∷◌, ◌++◌, append_assoc, append-nil, arith, length, Option, None, Some}
use Rattle.std.specs.List.{list_any}
use Rattle.std.proofs.Math.Bool.{or-false}
use Rattle.std.proofs.lemmas.List.Folds.{list_any-append}
use Rattle.report_texts.specs.declared.report.Report.{Report}
use Rattle.report_texts.specs.Repeats.{FrontError, HasNoRepeats, are_same, front_error, is_repeat, is_same, without_repeats}

pub none_same : (seen : List FrontError) → list_any (λ e. are_same None (Some e)) seen ≡ false
none_same [] = refl
none_same (e ∷ seen) = none_same seen

no_repeat : (before : ℕ) (earlier : List Report) → list_any (λ e. are_same None (front_error before e)) earlier ≡ false
no_repeat before [] = refl
no_repeat before (e ∷ earlier) = no_repeat before earlier

-- These are the errors of earlier reports that are written in the front.
abbrev pub AreErrors : ℕ → List FrontError → List Report → Type 0
AreErrors before seen earlier = (other : FrontError) → list_any (is_same other) seen ≡ list_any (λ e. are_same (Some other) (front_error before e)) earlier

seen_is : (before : ℕ) (seen : List FrontError) (earlier : List Report) → AreErrors before seen earlier → (error : Option FrontError)
    → list_any (λ e. are_same error (Some e)) seen ≡ list_any (λ e. are_same error (front_error before e)) earlier
seen_is before seen earlier are None = none_same seen ∙ sym (no_repeat before earlier)
seen_is before seen earlier are (Some other) = are other

errors_more : (before : ℕ) (seen more : List FrontError) (earlier : List Report) (r : Report) → AreErrors before seen earlier
    → ((other : FrontError) → list_any (is_same other) more ≡ (list_any (is_same other) seen || are_same (Some other) (front_error before r))) → AreErrors before more (earlier ++ r ∷ [])
errors_more before seen more earlier r are added = λ other.
    added other ∙ ap (λ b. b || are_same (Some other) (front_error before r)) (are other)
    ∙ sym (list_any-append (λ e. are_same (Some other) (front_error before e)) earlier (r ∷ []) ∙ ap (λ b. list_any (λ e. are_same (Some other) (front_error before e)) earlier || b) (or-false (are_same (Some other) (front_error before r))))

-- The reports before `rest` were looked at, and `left` are those of them that repeat none.
abbrev pub Leaves : ℕ → List Report → List Report → List FrontError → List Report → Type 0
Leaves before all rest seen left = (earlier : List Report) × AreErrors before seen earlier × (left ++ without_repeats before earlier rest ≡ without_repeats before [] all)

pub none_yet : (before : ℕ) (all : List Report) → Leaves before all all [] []
none_yet before all = ([], λ other. refl, refl)

is_false : (b : Bool) → true ≡ not b → b ≡ false
is_false true is = absurd cc
is_false false is = refl

is_true : (b : Bool) → false ≡ not b → b ≡ true
is_true true is = refl
is_true false is = absurd cc

module _ (before : ℕ) (all : List Report) (r : Report) (rest : List Report) (seen more : List FrontError) (left : List Report) where
  pub keeps_one : Leaves before all (r ∷ rest) seen left → ((other : FrontError) → list_any (is_same other) more ≡ (list_any (is_same other) seen || are_same (Some other) (front_error before r)))
      → true ≡ not (list_any (λ e. are_same (front_error before r) (Some e)) seen) → Leaves before all rest more (left ++ r ∷ [])
  keeps_one was added new =
      let earlier = was.0 in
      let next = without_repeats before (earlier ++ r ∷ []) rest in
      let other : list_any (is_repeat before r) earlier ≡ false = sym (seen_is before seen earlier was.1 (front_error before r)) ∙ is_false _ new in (
        earlier ++ r ∷ [],
        errors_more before seen more earlier r was.1 added,
        append_assoc left (r ∷ []) next ∙ ap (λ b. left ++ ((if b then [] else r ∷ []) ++ next)) (sym other) ∙ was.2,
      )

  pub leaves_one_out : Leaves before all (r ∷ rest) seen left → ((other : FrontError) → list_any (is_same other) more ≡ (list_any (is_same other) seen || are_same (Some other) (front_error before r)))
      → false ≡ not (list_any (λ e. are_same (front_error before r) (Some e)) seen) → Leaves before all rest more left
  leaves_one_out was added old =
      let earlier = was.0 in
      let next = without_repeats before (earlier ++ r ∷ []) rest in
      let same : list_any (is_repeat before r) earlier ≡ true = sym (seen_is before seen earlier was.1 (front_error before r)) ∙ is_true _ old in (
        earlier ++ r ∷ [],
        errors_more before seen more earlier r was.1 added,
        ap (λ b. left ++ ((if b then [] else r ∷ []) ++ next)) (sym same) ∙ was.2,
      )

pub all_left : (before : ℕ) (all : List Report) (seen : List FrontError) (left : List Report) → Leaves before all [] seen left → left ≡ without_repeats before [] all
all_left before all seen left was = sym (append-nil left) ∙ was.2

-- A report is one of these.
abbrev IsOneOf : Report → List Report → Type 0
IsOneOf r earlier = (has : Report → Bool) → has r ≡ true → list_any has earlier ≡ true

or_left : (a b : Bool) → a ≡ true → (a || b) ≡ true
or_left true b is = refl
or_left false b is = absurd cc

or_right : (a b : Bool) → b ≡ true → (a || b) ≡ true
or_right true b is = refl
or_right false b is = is

one_of_more : (r last : Report) (earlier : List Report) → IsOneOf r earlier → IsOneOf r (earlier ++ last ∷ [])
one_of_more r last earlier is has holds = list_any-append has earlier (last ∷ []) ∙ or_left (list_any has earlier) (list_any has (last ∷ [])) (is has holds)

one_of_last : (r : Report) (earlier : List Report) → IsOneOf r (earlier ++ r ∷ [])
one_of_last r earlier has holds = list_any-append has earlier (r ∷ []) ∙ or_right (list_any has earlier) (list_any has (r ∷ [])) (ap (λ b. b || false) holds)

-- what is left is no repeat of an earlier report
apart : (before : ℕ) (e : Report) (earlier xs : List Report) → IsOneOf e earlier → list_any (λ later. is_repeat before later e) (without_repeats before earlier xs) ≡ false
apart before e earlier [] is = refl
apart before e earlier (r ∷ xs) is =
    let repeats : Report → Bool = λ later. is_repeat before later e in
    let next = without_repeats before (earlier ++ r ∷ []) xs in
    let later : list_any repeats next ≡ false = apart before e (earlier ++ r ∷ []) xs (one_of_more e r earlier is) in
    elim (list_any (is_repeat before r) earlier) as (λ b. list_any (is_repeat before r) earlier ≡ b → list_any repeats ((if b then [] else r ∷ []) ++ next) ≡ false) [
      | true ↦ λ repeated. later
      | false ↦ λ new. elim (is_repeat before r e) as (λ b. is_repeat before r e ≡ b → (b || list_any repeats next) ≡ false) [
        | true ↦ λ same. absurd (let repeated = is (is_repeat before r) same in cc)
        | false ↦ λ other. later
      ] refl
    ] refl

pub no_repeats : (before : ℕ) (earlier xs : List Report) → HasNoRepeats before (without_repeats before earlier xs)
no_repeats before earlier [] = tt
no_repeats before earlier (r ∷ xs) =
    let next = without_repeats before (earlier ++ r ∷ []) xs in
    let none : HasNoRepeats before next = no_repeats before (earlier ++ r ∷ []) xs in
    elim (list_any (is_repeat before r) earlier) as (λ b. HasNoRepeats before ((if b then [] else r ∷ []) ++ next)) [
      | true ↦ none
      | false ↦ (apart before r (earlier ++ r ∷ []) xs (one_of_last r earlier), none)
    ]

pub nil_of : {X : Type 0} (xs : List X) → length xs ≡ 0 → xs ≡ []
nil_of [] none = refl
nil_of (x ∷ xs) none = absurd (omega (arith, none))
