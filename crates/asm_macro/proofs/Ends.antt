-- Where a source ends: before its first byte 1AH.
use Rattle.std.proofs.Common.{◌≡◌, ◌<◌, ℕ, zero, suc, Bool, true, false, not, List, [], ◌∷◌, length, slice_index, refl, arith}
use Rattle.std.specs.List.{prefix_len}

isnt : (b : Bool) → (b ≡ true → ⊥) → b ≡ false
isnt true never = absurd (never refl)
isnt false never = refl

-- The first element that passes the test is at index k if no element before it passes.
pub before_first : (test : ℕ → Bool) (xs : List ℕ) (k : ℕ) → k < length xs → ((j : ℕ) → j < k → test (slice_index xs j) ≡ true → ⊥) → test (slice_index xs k) ≡ true
    → k ≡ prefix_len (λ x. not (test x)) xs
before_first test [] k within before here = absurd (omega (arith, within))
before_first test (x ∷ xs) zero within before here = rw here refl
before_first test (x ∷ xs) (suc k) within before here =
    rw (isnt (test x) (before 0 (omega arith))) (omega (arith, before_first test xs k (omega (arith, within)) (λ j lt. before (suc j) (omega (arith, lt))) here))

-- If no element passes the test, all elements are before the first that does.
pub all_before : (test : ℕ → Bool) (xs : List ℕ) → ((j : ℕ) → j < length xs → test (slice_index xs j) ≡ true → ⊥) → length xs ≡ prefix_len (λ x. not (test x)) xs
all_before test [] none = refl
all_before test (x ∷ xs) none =
    rw (isnt (test x) (none 0 (omega arith))) (omega (arith, all_before test xs (λ j lt. none (suc j) (omega (arith, lt)))))
