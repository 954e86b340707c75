-- The first part of a line, and the parts after it.
use Rattle.std.proofs.Common.{◌≡◌, ℕ, ◌+◌, ◌<◌, ◌≤◌, List, [], ◌∷◌, Bool, false, not, ap, arith, drop, length, sym, subst, take, ◌∙◌, length-drop}
use Rattle.std.specs.List.{position_or_len, slice_split}
use Rattle.std.proofs.lemmas.Bool.{not-true}
use Rattle.std.proofs.lemmas.List.{drop-drop, take_all}
use Rattle.std.proofs.lemmas.List.Elements.{All-from_get_or}
use Rattle.std.proofs.lemmas.List.Splits.{slice_split_first, slice_split_none}
use Rattle.std.proofs.lemmas.List.Sums.{prefix_len_passes}

-- white space is after the first part
pub part_then : (p : ℕ → Bool) (xs : List ℕ) (x : ℕ) (after : List ℕ) (n : ℕ) → n ≡ position_or_len p xs → drop n xs ≡ x ∷ after → slice_split p xs ≡ take n xs ∷ slice_split p after
part_then p xs x after n at from =
    let size = ap length from in
    let below : position_or_len p xs < length xs = omega (arith, length-drop n xs, size) in
    let rest : drop (n + 1) xs ≡ after = sym (drop-drop 1 n xs) ∙ ap (drop 1) from in
    subst (λ k. slice_split p xs ≡ take k xs ∷ slice_split p (drop (k + 1) xs)) (sym at) (slice_split_first p xs x below) ∙ ap (λ ys. take n xs ∷ slice_split p ys) rest

-- the first part is the last
pub part_last : (p : ℕ → Bool) (xs : List ℕ) (n : ℕ) → n ≡ position_or_len p xs → length (drop n xs) ≡ 0 → slice_split p xs ≡ take n xs ∷ []
part_last p xs n at none =
    let all : length xs ≤ n = omega (arith, length-drop n xs, none) in
    let whole = slice_split_none p xs (All-from_get_or (λ x. p x ≡ false) xs 0 (λ i below. not-true _ (prefix_len_passes (λ x. not (p x)) xs i 0 (omega arith)))) in
    whole ∙ ap (λ ys. ys ∷ []) (sym (take_all n xs all))
