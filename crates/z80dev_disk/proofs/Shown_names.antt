-- Names of files as they are printed.
use Rattle.std.proofs.Common.{◌≡◌, ◌<◌, ◌+◌, ◌==◌, ◌&&◌, ℕ, suc, false, not, IsAscii, List, [], ◌∷◌, ◌++◌, codes, drop, get_or, length, take, refl, sym, ap, subst, ◌∙◌, inl, inr, arith, ne_eqb}
use Rattle.std.proofs.lemmas.Bool.{cases_lt}
use Rattle.std.proofs.lemmas.List.{get_or-drop, get_or-take, get_or_past, length-take}
use Rattle.cpm_image.specs.Directory.Letters.{letters}
use Rattle.cpm_disk.proofs.Attributes.{low_byte}
use Rattle.z80dev_disk.specs.Names.{host_name, trimmed, when}

-- ---- blank names

some : (n : ℕ) → (suc n == 0) ≡ false
some n = ne_eqb (suc n) 0 (λ none. omega (arith, none))

-- A name is blank if both its parts are.
both_blank : (one two : List ℕ) → (length (one ++ (when (not (length two == 0)) (codes ".") ++ two)) == 0) ≡ ((length one == 0) && (length two == 0))
both_blank [] [] = refl
both_blank [] (b ∷ two) = ap (λ t. length (when (not t) (codes ".") ++ b ∷ two) == 0) (some (length two)) ∙ some (suc (length two)) ∙ sym (some (length two))
both_blank (a ∷ one) two = some (length (one ++ (when (not (length two == 0)) (codes ".") ++ two))) ∙ sym (ap (λ t. t && (length two == 0)) (some (length one)))

pub is_blank : (name : List ℕ) → (length (host_name name) == 0) ≡ ((length (trimmed (take 8 name)) == 0) && (length (trimmed (drop 8 name)) == 0))
is_blank name = both_blank (trimmed (take 8 name)) (trimmed (drop 8 name))

-- ---- names are texts

-- the first n of bytes that are ASCII are ASCII
ascii_taken : (xs : List ℕ) (n : ℕ) → IsAscii xs → IsAscii (take n xs)
ascii_taken xs n low i = elim (cases_lt i n) as (λ _. get_or (take n xs) i 0 < 128) [
  | inl below ↦ subst (λ b. b < 128) (sym (get_or-take n xs i 0 below)) (low i)
  | inr past ↦ subst (λ b. b < 128) (sym (get_or_past (take n xs) i 0 (omega (arith, past, length-take n xs)))) (omega arith)
]

ascii_dropped : (xs : List ℕ) (n : ℕ) → IsAscii xs → IsAscii (drop n xs)
ascii_dropped xs n low i = subst (λ b. b < 128) (sym (get_or-drop n xs i 0)) (low (n + i))

ascii_letters : (name : List ℕ) → letters name ≡ name → IsAscii name
ascii_letters name low i = low_byte name i low

pub ascii_front : (name : List ℕ) → letters name ≡ name → IsAscii (trimmed (take 8 name))
ascii_front name low = ascii_taken (take 8 name) _ (ascii_taken name 8 (ascii_letters name low))

pub ascii_kind : (name : List ℕ) → letters name ≡ name → IsAscii (trimmed (drop 8 name))
ascii_kind name low = ascii_taken (drop 8 name) _ (ascii_dropped name 8 (ascii_letters name low))
