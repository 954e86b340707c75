-- What tests of entries and of lists of entries mean.
use Rattle.std.proofs.Common.{◌≡◌, ◌⊎◌, ◌<◌, ◌≤◌, ◌/◌, ◌%◌, ◌*◌, ◌+◌, ℕ, zero, suc, Bool, true, false, List, [], ◌∷◌, length, map, subst, drop, ap₂, refl, sym, ap, ◌∙◌, inl, inr, arith, nat_eq, get_or, set, Some, find, bytes_eq, true≢false, eqb-true, eq-eqb, ne_eqb, ltb-true, lt-ltb}
use Rattle.std.proofs.lemmas.Bool.{and_parts, cases_Bool, and_from, cases_lt}
use Rattle.std.proofs.lemmas.Option.{none-some}
use Rattle.std.proofs.lemmas.List.{get_or_past}
use Rattle.std.proofs.lemmas.List.Folds.{list_any_at}
use Rattle.std.proofs.lemmas.Slice.Eq.{bytes_eq-Decides}
use Rattle.std.specs.List.{list_any, range_with_len}
use Rattle.cpm_image.specs.declared.directory.entry.TheConstants.{USERS}
use Rattle.cpm_image.specs.declared.directory.entry.Entry.{Entry}
use Rattle.cpm_image.specs.Directory.Entries.{at, blank, is_extent, is_match, is_of}
use Rattle.cpm_image.specs.Directory.Letters.{letters, with_letters}

-- if a test fails for all entries of a list and for a blank one, it fails at every number
pub none_at : (p : Entry → Bool) (entries : List Entry) (k : ℕ) → p blank ≡ false → list_any p entries ≡ false → p (at entries k) ≡ false
none_at p entries k blank_not none = elim (cases_lt k (length entries)) as (λ _. p (at entries k) ≡ false) [
  | inl below ↦ elim (cases_Bool (p (at entries k))) as (λ _. p (at entries k) ≡ false) [
    | inl passes ↦ absurd (true≢false (sym (list_any_at p entries k blank below passes) ∙ none))
    | inr fails ↦ fails
  ]
  | inr past ↦ rw (get_or_past entries k blank past) blank_not
]

-- an entry of a list that a function changes entry by entry
pub at_map : (f : Entry → Entry) (entries : List Entry) (k : ℕ) → f blank ≡ blank → at (map f entries) k ≡ f (at entries k)
at_map f [] k same = sym same
at_map f (e ∷ entries) zero same = refl
at_map f (e ∷ entries) (suc k) same = at_map f entries k same

-- the user and the name of an entry that belongs to a file
pub of_file : (user : ℕ) (name : List ℕ) (e : Entry) → is_of user name e ≡ true → (e.user ≡ user) × (letters e.name ≡ name)
of_file user name e is =
    let parts = and_parts (nat_eq e.user user) (bytes_eq (letters e.name) name) is in
    (eqb-true e.user user parts.0, (bytes_eq-Decides (letters e.name) name).0 parts.1)

pub is_of_file : (user : ℕ) (name : List ℕ) (e : Entry) → e.user ≡ user → letters e.name ≡ name → is_of user name e ≡ true
is_of_file user name e same_user same_name =
    let named : bytes_eq (letters e.name) name ≡ true = (bytes_eq-Decides (letters e.name) name).1 same_name in
    and_from (nat_eq e.user user) (bytes_eq (letters e.name) name) (eq-eqb e.user user same_user) named

-- a blank entry belongs to no file
pub blank_is_not_of : (user : ℕ) (name : List ℕ) → user < USERS → is_of user name blank ≡ false
blank_is_not_of user name below = rw (ne_eqb 229 user (λ e. omega arith)) refl

-- and no pattern matches it
pub blank_is_no_match : (user : ℕ) (pattern : List ℕ) → user < USERS → is_match user pattern blank ≡ false
blank_is_no_match user pattern below = rw (ne_eqb 229 user (λ e. omega arith)) refl

pub extent_below : (e : Entry) → is_extent e ≡ true → e.user < USERS
extent_below e ext = ltb-true e.user 32 ext

pub below_extent : (e : Entry) → e.user < USERS → is_extent e ≡ true
below_extent e below = lt-ltb e.user 32 below

-- writing to a list changes at most the element at that number
pub set_cases : (xs : List ℕ) (i y a : ℕ) → (get_or (set xs i y) a 0 ≡ get_or xs a 0) ⊎ ((a ≡ i) × (get_or (set xs i y) a 0 ≡ y))
set_cases [] i y a = inl refl
set_cases (x ∷ xs) zero y zero = inr (refl, refl)
set_cases (x ∷ xs) zero y (suc a) = inl refl
set_cases (x ∷ xs) (suc i) y zero = inl refl
set_cases (x ∷ xs) (suc i) y (suc a) = elim (set_cases xs i y a) as (λ _. (get_or (set (x ∷ xs) (suc i) y) (suc a) 0 ≡ get_or (x ∷ xs) (suc a) 0) ⊎ ((suc a ≡ suc i) × (get_or (set (x ∷ xs) (suc i) y) (suc a) 0 ≡ y))) [
  | inl same ↦ inl same
  | inr put ↦ inr (ap suc put.0, put.1)
]

-- a search finds a number that is in the list
pub stands_in : (xs : List ℕ) (a b : ℕ) → 0 < b → get_or xs a 0 ≡ b → list_any (λ c. nat_eq c b) xs ≡ true
stands_in xs a b some here = elim (cases_lt a (length xs)) as (λ _. list_any (λ c. nat_eq c b) xs ≡ true) [
  | inl below ↦ list_any_at (λ c. nat_eq c b) xs a 0 below (eq-eqb (get_or xs a 0) b here)
  | inr past ↦ (let none : get_or xs a 0 ≡ 0 = get_or_past xs a 0 past in absurd (omega arith))
]

-- what a search finds among consecutive numbers
pub found_in_range : (p : ℕ → Bool) (from n b : ℕ) → find p (range_with_len from n) ≡ Some b → (from ≤ b) × (b < from + n) × (p b ≡ true)
found_in_range p from zero b is = absurd (none-some b is)
found_in_range p from (suc n) b is = elim (cases_Bool (p from)) as (λ _. (from ≤ b) × (b < from + suc n) × (p b ≡ true)) [
  | inl passes ↦ (let found = rw passes at is in let here : from ≡ b = cc in (omega arith, omega arith, rw (← here) passes))
  | inr fails ↦ (let rest = found_in_range p (from + 1) n b (rw fails at is) in (omega (arith, rest.0), omega (arith, rest.1), rest.2))
]

-- what a search finds is in the list
pub found_at : (p : Entry → Bool) (xs : List Entry) (e : Entry) → find p xs ≡ Some e → (k : ℕ) × (k < length xs) × (e ≡ at xs k) × (p e ≡ true)
found_at p [] e is = absurd cc
found_at p (x ∷ xs) e is = elim (cases_Bool (p x)) as (λ _. (k : ℕ) × (k < length (x ∷ xs)) × (e ≡ at (x ∷ xs) k) × (p e ≡ true)) [
  | inl passes ↦ (let found = rw passes at is in let here : x ≡ e = cc in (0, omega arith, sym here, subst (λ z. p z ≡ true) here passes))
  | inr fails ↦ (let (k, below, is_at, passes) = found_at p xs e (rw fails at is) in (suc k, omega (arith, below), is_at, passes))
]

-- the name that a renamed entry has
pub letters_with : (old new : List ℕ) → length old ≡ length new → letters new ≡ new → letters (with_letters old new) ≡ new
letters_with [] [] same seven = refl
letters_with [] (y ∷ new) same seven = absurd (omega arith)
letters_with (x ∷ old) [] same seven = absurd (omega arith)
letters_with (x ∷ old) (y ∷ new) same seven =
    let first : y % 128 ≡ y = ap (λ ys. get_or ys 0 0) seven in
    let rest : letters new ≡ new = ap (λ ys. drop 1 ys) seven in
    let byte : (128 * (x / 128) + y) % 128 ≡ y = omega arith in
    ap₂ (λ b bs. b ∷ bs) byte (letters_with old new (omega arith) rest)
