-- Block numbers, as bytes or as words.
use Rattle.std.proofs.Common.{◌≡◌, ◌<◌, ℕ, zero, suc, ◌+◌, ◌*◌, ◌/◌, ◌%◌, List, [], ◌∷◌, length, get_or, set, slice_index, replicate, get_or-set_same, inl, inr, refl, arith, ap, ◌∙◌}
use Rattle.std.proofs.lemmas.Bool.{cases_lt}
use Rattle.std.proofs.lemmas.List.{length-replicate, get_or_past, get_or-replicate}
use Rattle.cpm_image.specs.Kind.{block_records, entry_blocks}
use Rattle.cpm_image.specs.declared.kind.DiskKind.{DiskKind}
use Rattle.cpm_image.specs.declared.kind.DiskKind.TheVariants.{EightInch, Megabyte}
use Rattle.cpm_image.specs.Directory.Entries.{block, block_numbers, extent_number, new_extent, with_block, words_of_bytes}

pub length-words : (n : ℕ) (xs : List ℕ) → length xs ≡ 2 * n → length (words_of_bytes xs) ≡ n
unfolding words_of_bytes
length-words n [] long = omega arith
length-words n (x ∷ []) long = absurd (omega arith)
length-words zero (x ∷ y ∷ xs) long = absurd (omega arith)
length-words (suc n) (x ∷ y ∷ xs) long = ap suc (length-words n xs (omega arith))

-- the word with a number
pub word_at : (n : ℕ) (xs : List ℕ) (g : ℕ) → length xs ≡ 2 * n → get_or (words_of_bytes xs) g 0 ≡ get_or xs (2 * g) 0 + 256 * get_or xs (2 * g + 1) 0
unfolding words_of_bytes
word_at n [] g long = refl
word_at n (x ∷ []) g long = absurd (omega arith)
word_at zero (x ∷ y ∷ xs) g long = absurd (omega arith)
word_at (suc n) (x ∷ y ∷ xs) zero long = refl
word_at (suc n) (x ∷ y ∷ xs) (suc g) long =
    let low : 2 * suc g ≡ suc (suc (2 * g)) = omega arith in
    let high : 2 * suc g + 1 ≡ suc (suc (2 * g + 1)) = omega arith in
    rw (high, low) (word_at n xs g (omega arith))

-- a word that is written as two bytes
pub words-set : (xs : List ℕ) (g b : ℕ) → words_of_bytes (set (set xs (2 * g) (b % 256)) (2 * g + 1) (b / 256)) ≡ set (words_of_bytes xs) g b
unfolding words_of_bytes
words-set [] g b = refl
words-set (x ∷ []) zero b = refl
words-set (x ∷ []) (suc g) b =
    let low : 2 * suc g ≡ suc (suc (2 * g)) = omega arith in
    let high : 2 * suc g + 1 ≡ suc (suc (2 * g + 1)) = omega arith in
    rw (high, low) refl
words-set (x ∷ y ∷ xs) zero b = let e : b % 256 + 256 * (b / 256) ≡ b = omega arith in ap (λ n. n ∷ words_of_bytes xs) e
words-set (x ∷ y ∷ xs) (suc g) b =
    let low : 2 * suc g ≡ suc (suc (2 * g)) = omega arith in
    let high : 2 * suc g + 1 ≡ suc (suc (2 * g + 1)) = omega arith in
    rw (high, low) (ap (λ ns. (x + 256 * y) ∷ ns) (words-set xs g b))

pub length-numbers : (kind : DiskKind) (bytes : List ℕ) → length bytes ≡ 16 → length (block_numbers kind bytes) ≡ entry_blocks kind
length-numbers EightInch bytes long = long
length-numbers Megabyte bytes long = length-words 8 bytes long

-- a block that is set is one of the numbers
pub numbers-with_block : (kind : DiskKind) (bytes : List ℕ) (g b : ℕ) → block_numbers kind (with_block kind bytes g b) ≡ set (block_numbers kind bytes) g b
numbers-with_block EightInch bytes g b = refl
numbers-with_block Megabyte bytes g b = words-set bytes g b

pub block_put : (kind : DiskKind) (old new : List ℕ) (g b : ℕ) → length old ≡ 16 → g < entry_blocks kind → new ≡ with_block kind old g b → slice_index (block_numbers kind new) g ≡ b
block_put kind old new g b long below is =
    let size = length-numbers kind old long in
    ap (λ bs. get_or (block_numbers kind bs) g 0) is ∙ ap (λ bs. get_or bs g 0) (numbers-with_block kind old g b) ∙ get_or-set_same (block_numbers kind old) g b 0 (omega arith)

pub group_below : (kind : DiskKind) (i : ℕ) → i < 128 → i / block_records kind < entry_blocks kind
group_below EightInch i below = omega arith
group_below Megabyte i below = omega arith

pub zeros_at : (n i : ℕ) → get_or (replicate {A = ℕ} n 0) i 0 ≡ 0
zeros_at n i = elim (cases_lt i n) as (λ _. ◌≡◌ {A = ℕ} (get_or (replicate n 0) i 0) 0) [
  | inl below ↦ get_or-replicate {A = ℕ} n i 0 0 below
  | inr past ↦ get_or_past (replicate {A = ℕ} n 0) i 0 (rw (length-replicate {A = ℕ} n 0) past)
]

-- a new extent has its number
pub number_of_new : (user number : ℕ) (name : List ℕ) → number < 2048 → extent_number (new_extent user name number) ≡ number
number_of_new user number name below = omega arith

-- and no blocks
pub new_block : (kind : DiskKind) (user number a : ℕ) (name : List ℕ) → block kind (new_extent user name number) a ≡ 0
unfolding words_of_bytes
new_block EightInch user number a name = zeros_at 16 a
new_block Megabyte user number a name = zeros_at 8 a
