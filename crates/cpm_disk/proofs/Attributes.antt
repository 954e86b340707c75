-- Attributes of a file after one of its entries is written.
use Rattle.std.proofs.Common.{◌≡◌, ◌<◌, ◌%◌, ℕ, zero, suc, Bool, true, false, ◌&&◌, ◌||◌, List, [], ◌∷◌, drop, length, get_or, slice_set, refl, sym, ap, ◌∙◌, arith, inl, inr}
use Rattle.std.proofs.lemmas.Bool.{cases_Bool}
use Rattle.std.specs.List.{list_any}
use Rattle.cpm_image.specs.declared.directory.entry.Entry.{Entry}
use Rattle.cpm_image.specs.Directory.Entries.{at}
use Rattle.cpm_image.specs.Directory.Letters.{letters}

-- after one entry is written, a test passes somewhere in the list exactly if it did before: the old entry did not pass, and the new one
-- passes only if another does
pub any_put : (p : Entry → Bool) (xs : List Entry) (k : ℕ) (y : Entry) → k < length xs → p (at xs k) ≡ false → (p y ≡ true → list_any p xs ≡ true) → list_any p (slice_set xs k y) ≡ list_any p xs
any_put p [] k y below fails_there some = absurd (omega arith)
any_put p (x ∷ xs) zero y below fails_there some = elim (cases_Bool (p y)) as (λ _. list_any p (y ∷ xs) ≡ list_any p (x ∷ xs)) [
  | inl passes ↦ ap (λ b. b || list_any p xs) passes ∙ sym (some passes)
  | inr fails ↦ ap (λ b. b || list_any p xs) fails ∙ sym (ap (λ b. b || list_any p xs) fails_there)
]
any_put p (x ∷ xs) (suc k) y below fails_there some = elim (cases_Bool (p x)) as (λ _. list_any p (x ∷ slice_set xs k y) ≡ list_any p (x ∷ xs)) [
  | inl passes ↦ ap (λ b. b || list_any p (slice_set xs k y)) passes ∙ sym (ap (λ b. b || list_any p xs) passes)
  | inr fails ↦ ap (λ b. b || list_any p (slice_set xs k y)) fails ∙ any_put p xs k y (omega arith) fails_there (λ passes. sym (ap (λ b. b || list_any p xs) fails) ∙ some passes) ∙ sym (ap (λ b. b || list_any p xs) fails)
]

-- the same if the new entry passes the test exactly if the old one did
pub any_same : (p : Entry → Bool) (xs : List Entry) (k : ℕ) (y : Entry) → k < length xs → p y ≡ p (at xs k) → list_any p (slice_set xs k y) ≡ list_any p xs
any_same p [] k y below same = absurd (omega arith)
any_same p (x ∷ xs) zero y below same = ap (λ b. b || list_any p xs) same
any_same p (x ∷ xs) (suc k) y below same = ap (λ b. p x || b) (any_same p xs k y (omega arith) same)

-- if no entry passes a test, none passes it together with another test
pub none_with : (p q : Entry → Bool) (xs : List Entry) → list_any p xs ≡ false → list_any (λ e. p e && q e) xs ≡ false
none_with p q [] none = refl
none_with p q (x ∷ xs) none = elim (cases_Bool (p x)) as (λ _. list_any (λ e. p e && q e) (x ∷ xs) ≡ false) [
  | inl passes ↦ (let clash : true ≡ false = sym (ap (λ b. b || list_any p xs) passes) ∙ none in absurd cc)
  | inr fails ↦ ap (λ b. (b && q x) || list_any (λ e. p e && q e) xs) fails ∙ none_with p q xs (sym (ap (λ b. b || list_any p xs) fails) ∙ none)
]

-- the bytes of a name are below 80H
pub low_byte : (name : List ℕ) (i : ℕ) → letters name ≡ name → get_or name i 0 < 128
low_byte [] i seven = omega arith
low_byte (y ∷ name) zero seven = let low : y % 128 ≡ y = ap (λ ys. get_or ys 0 0) seven in omega arith
low_byte (y ∷ name) (suc i) seven = low_byte name i (ap (drop 1) seven)
