-- A directive can be looked up among the words of its length.
use Rattle.std.proofs.Common.{◌≡◌, ◌≢◌, ℕ, ◌==◌, ◌&&◌, Bool, true, false, not, inl, inr, List, [], ◌∷◌, Some, cond, length, refl, ap, sym, ◌∙◌, arith}
use Rattle.std.specs.List.{filter}
use Rattle.std.specs.Map.{lookup}
use Rattle.std.specs.Char.{to_ascii_lowercase}
use Rattle.std.specs.Str.{str_eq_ignore_ascii_case, str_to_ascii_lowercase}
use Rattle.std.proofs.lemmas.Bool.{cases_Bool, eq-eqb, ne_eqb}
use Rattle.std.proofs.lemmas.Slice.Eq.{bytes_eq-Decides}
use Rattle.std.proofs.lemmas.List.{length-map}
use Rattle.asm_spell.specs.Directives.{directive, directives}
use Rattle.asm_spell.specs.Private.Choices.{of_two, of_three, of_four, of_more}

-- Words that differ only in case have the same length.
as_long : (name word : List ℕ) → str_eq_ignore_ascii_case name word ≡ true → length word ≡ length name
as_long name word same =
    let lower : length (str_to_ascii_lowercase name) ≡ length (str_to_ascii_lowercase word) = ap length ((bytes_eq-Decides (str_to_ascii_lowercase name) (str_to_ascii_lowercase word)).0 same) in
    omega (arith, lower, length-map name to_ascii_lowercase, length-map word to_ascii_lowercase)

-- Entries with words of another length may be left out of a look-up.
among : {A : Type 0} (name : List ℕ) (p : List ℕ → Bool) (entries : List (List ℕ × A)) → ((word : List ℕ) → length word ≡ length name → p word ≡ true)
    → lookup (str_eq_ignore_ascii_case name) entries ≡ lookup (str_eq_ignore_ascii_case name) (filter (λ e. p e.0) entries)
among name p [] keeps = refl
among {A} name p (e ∷ es) keeps = elim (cases_Bool (p e.0)) as (λ _. lookup same (e ∷ es) ≡ lookup same (filter (λ e. p e.0) (e ∷ es))) [
  | inl in_it ↦ ap (cond (same e.0) (Some e.1)) (among name p es keeps) ∙ ap (λ b. lookup same (cond b (e ∷ filter (λ e. p e.0) es) (filter (λ e. p e.0) es))) (sym in_it)
  | inr out ↦
      ap (λ b. cond b (Some e.1) (lookup same es)) (differs (same e.0) refl out) ∙ among name p es keeps
      ∙ ap (λ b. lookup same (cond b (e ∷ filter (λ e. p e.0) es) (filter (λ e. p e.0) es))) (sym out)
]
  where
    same : List ℕ → Bool
    same = str_eq_ignore_ascii_case name

    differs : (b : Bool) → same e.0 ≡ b → p e.0 ≡ false → same e.0 ≡ false
    differs false is out = is
    differs true is out = let kept : true ≡ false = sym (keeps e.0 (as_long name e.0 is)) ∙ out in absurd cc

abbrev is_long : ℕ → List ℕ → Bool
is_long n word = length word == n

long : (n : ℕ) (name : List ℕ) → length name ≡ n → (word : List ℕ) → length word ≡ length name → is_long n word ≡ true
long n name is word e = eq-eqb (length word) n (e ∙ is)

pub looked_up_two : (name : List ℕ) → length name ≡ 2 → lookup (str_eq_ignore_ascii_case name) of_two ≡ directive name
looked_up_two name is = sym (among name (is_long 2) directives (long 2 name is))

pub looked_up_three : (name : List ℕ) → length name ≡ 3 → lookup (str_eq_ignore_ascii_case name) of_three ≡ directive name
looked_up_three name is = sym (among name (is_long 3) directives (long 3 name is))

pub looked_up_four : (name : List ℕ) → length name ≡ 4 → lookup (str_eq_ignore_ascii_case name) of_four ≡ directive name
looked_up_four name is = sym (among name (is_long 4) directives (long 4 name is))

abbrev is_other : List ℕ → Bool
is_other word = not (length word == 2) && not (length word == 3) && not (length word == 4)

other_length : (name : List ℕ) → length name ≢ 2 → length name ≢ 3 → length name ≢ 4 → (word : List ℕ) → length word ≡ length name → is_other word ≡ true
other_length name no_two no_three no_four word e =
    let two : (length word == 2) ≡ false = ne_eqb (length word) 2 (λ is. no_two (sym e ∙ is)) in
    let three : (length word == 3) ≡ false = ne_eqb (length word) 3 (λ is. no_three (sym e ∙ is)) in
    let four : (length word == 4) ≡ false = ne_eqb (length word) 4 (λ is. no_four (sym e ∙ is)) in
    rw (two, three, four) refl

pub looked_up_more : (name : List ℕ) → length name ≢ 2 → length name ≢ 3 → length name ≢ 4 → lookup (str_eq_ignore_ascii_case name) of_more ≡ directive name
looked_up_more name no_two no_three no_four = sym (among name is_other directives (other_length name no_two no_three no_four))
