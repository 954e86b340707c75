-- Names that are made byte by byte, and the bytes of entries.
use Rattle.std.proofs.Common.{◌≡◌, ℕ, ◌+◌, ◌*◌, ◌/◌, ◌%◌, ◌<◌, ◌≤◌, List, [], ◌∷◌, ◌++◌, length, get_or, refl, sym, ◌∙◌, arith}
use Rattle.std.specs.List.{zip}
use Rattle.std.proofs.lemmas.List.{get_or-map, length-map}
use Rattle.std.proofs.lemmas.Slice.Zip.{get_or-zip, length-zip}
use Rattle.std.proofs.lemmas.Grind.{same_number_lists}
use Rattle.cpm_image.specs.Directory.Types.{Entry}
use Rattle.cpm_image.specs.Directory.Letters.{letters, with_letters}
use Rattle.cpm_image.specs.Directory.Entries.{entry_of}

-- the bytes below i have lost their high bits, the others are as they were
pub record IsCut (name bytes : List ℕ) (i : ℕ) : Type 0 where
  pub long : length bytes ≡ length name
  pub done : (k : ℕ) → k < i → get_or bytes k 0 ≡ get_or name k 0 % 128
  pub left : (k : ℕ) → i ≤ k → get_or bytes k 0 ≡ get_or name k 0

pub cut : {name bytes : List ℕ} {i : ℕ} → IsCut name bytes i → length bytes ≤ i → bytes ≡ letters name
cut {name = name} {bytes = bytes} is h =
    let long = is.long in
    same_number_lists bytes (letters name) (long ∙ sym (length-map name _)) (λ k below. is.done k (omega arith) ∙ sym (get_or-map (λ b. b % 128) name k 0 0 (omega arith)))

pub letters-letters : (xs : List ℕ) → letters (letters xs) ≡ letters xs
letters-letters [] = refl
letters-letters (x ∷ xs) =
    let e : x % 128 % 128 ≡ x % 128 = omega arith in
    rw (e, letters-letters xs) refl

-- the bytes below i have taken the high bits of the old name, the others are as they were
pub record IsRenamed (name old bytes : List ℕ) (i : ℕ) : Type 0 where
  pub long : length bytes ≡ length name
  pub done : (k : ℕ) → k < i → get_or bytes k 0 ≡ 128 * (get_or old k 0 / 128) + get_or name k 0
  pub left : (k : ℕ) → i ≤ k → get_or bytes k 0 ≡ get_or name k 0

pub taken : {name old bytes : List ℕ} {i : ℕ} → IsRenamed name old bytes i → length bytes ≤ i → length old ≡ length bytes → bytes ≡ with_letters old name
taken {name = name} {old = old} {bytes = bytes} is h e =
    let long = is.long in
    same_number_lists bytes (with_letters old name) (rw (length-map, length-zip) (omega arith)) (λ k below.
    is.done k (omega arith) ∙ sym (rw (get_or-map (λ (p : ℕ × ℕ). 128 * (p.0 / 128) + p.1) (zip old name) k (0, 0) 0 (rw length-zip (omega arith)), get_or-zip old name k (0, 0) (omega arith) (omega arith)) refl))

-- a name is its eleven bytes
pub eleven : (xs : List ℕ) → length xs ≡ 11 → xs ≡ get_or xs 0 0 ∷ get_or xs 1 0 ∷ get_or xs 2 0 ∷ get_or xs 3 0 ∷ get_or xs 4 0 ∷ get_or xs 5 0 ∷ get_or xs 6 0 ∷ get_or xs 7 0 ∷ get_or xs 8 0 ∷ get_or xs 9 0 ∷ get_or xs 10 0 ∷ []
eleven (a ∷ b ∷ d ∷ e ∷ f ∷ g ∷ i ∷ j ∷ k ∷ l ∷ m ∷ []) h = refl
eleven _ h = absurd (omega arith)

-- the bytes of an entry are that entry again
pub entry_of-bytes : {user extent s1 s2 records : ℕ} {blocks : List ℕ} (name : List ℕ) → length name ≡ 11 → ◌≡◌ {A = Entry} (entry_of (user ∷ name ++ extent ∷ s1 ∷ s2 ∷ records ∷ blocks)) (record { user = user; name = name; extent = extent; s1 = s1; s2 = s2; records = records; blocks = blocks })
entry_of-bytes (a ∷ b ∷ d ∷ e ∷ f ∷ g ∷ i ∷ j ∷ k ∷ l ∷ m ∷ []) h = refl
entry_of-bytes _ h = absurd (omega arith)
