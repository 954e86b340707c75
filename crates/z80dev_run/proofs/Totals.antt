-- The counts of steps by address add up to the number of steps.
use Rattle.std.proofs.Common.{◌≡◌, ◌<◌, ◌≤◌, ◌+◌, ◌∷◌, [], ℕ, zero, suc, Bool, true, false, All, List, add-one, length, take, sum, get_or, refl, sym, ap, ◌∙◌, arith, inl, inr}
use Rattle.std.specs.Prelude.{◌==◌, if◌then◌else◌, slice_index}
use Rattle.std.proofs.lemmas.Bool.{cases_eq}
use Rattle.std.proofs.lemmas.Bool.Decides.{nat_tests}
use Rattle.std.proofs.lemmas.List.{take_all}
use Rattle.std.proofs.lemmas.List.Elements.{All-tail}
use Rattle.std.proofs.lemmas.List.Sums.{sum_by-append, sum_by_more}
use Rattle.cpm_run.specs.Records.{count_at}
use Rattle.cpm_run.specs.declared.recording.TraceStep.{TraceStep}

-- the sum of the first n values of a function
total : (ℕ → ℕ) → ℕ → ℕ
total f zero = 0
total f (suc n) = total f n + f n

total_same : (f g : ℕ → ℕ) (n : ℕ) → ((k : ℕ) → k < n → f k ≡ g k) → total f n ≡ total g n
unfolding total
total_same f g zero same = refl
total_same f g (suc n) same =
    let before = total_same f g n (λ k below. same k (omega (arith, below))) in
    let last = same n (omega arith) in
    omega (arith, before, last)

total_zero : (n : ℕ) → total (λ k. 0) n ≡ 0
unfolding total
total_zero zero = refl
total_zero (suc n) = let before = total_zero n in omega (arith, before)

total_sum : (f g : ℕ → ℕ) (n : ℕ) → total (λ k. f k + g k) n ≡ total f n + total g n
unfolding total
total_sum f g zero = refl
total_sum f g (suc n) = let before = total_sum f g n in omega (arith, before)

-- one place below n has 1
one_at : ℕ → ℕ → ℕ
one_at p k = if p == k then 1 else 0

none_below : (p n : ℕ) → n ≤ p → total (one_at p) n ≡ 0
unfolding total one_at
none_below p zero le = refl
none_below p (suc n) le =
    let before = none_below p n (omega (arith, le)) in
    let other : (p == n) ≡ false = grind (arith, nat_tests, le) in
    let last : one_at p n ≡ 0 = ap (λ (b : Bool). if b then 1 else 0) other in
    omega (arith, before, last)

one_below : (p n : ℕ) → p < n → total (one_at p) n ≡ 1
unfolding total one_at
one_below p zero lt = absurd (omega (arith, lt))
one_below p (suc n) lt = elim (cases_eq p n) [
  | inl e ↦
      let le : n ≤ p = omega (arith, e) in
      let before = none_below p n le in
      let same : (p == n) ≡ true = grind (arith, nat_tests, e) in
      let last : one_at p n ≡ 1 = ap (λ (b : Bool). if b then 1 else 0) same in
      omega (arith, before, last)
  | inr apart ↦
      let below : p < n = omega (arith, apart, lt) in
      let before = one_below p n below in
      let other : (p == n) ≡ false = grind (arith, nat_tests, apart) in
      let last : one_at p n ≡ 0 = ap (λ (b : Bool). if b then 1 else 0) other in
      omega (arith, before, last)
]

-- the first step counts at its own address
count_first : (a : ℕ) (s : TraceStep) (steps : List TraceStep) → count_at a (s ∷ steps) ≡ one_at s.before.pc a + count_at a steps
unfolding one_at
count_first a s steps =
    let e : count_at a (s ∷ steps) ≡ count_at a (s ∷ []) + count_at a steps = sum_by-append (λ (x : TraceStep). if x.before.pc == a then 1 else 0) (s ∷ []) steps in
    omega (arith, e)

-- the counts of all addresses below n
all_counted : (n : ℕ) (steps : List TraceStep) → All (λ s. s.before.pc < n) steps → total (λ a. count_at a steps) n ≡ length steps
all_counted n [] all = total_zero n
all_counted n (s ∷ steps) all =
    let rest = all_counted n steps (All-tail (λ (t : TraceStep). t.before.pc < n) s steps all) in
    let split : total (λ a. count_at a (s ∷ steps)) n ≡ total (one_at s.before.pc) n + total (λ a. count_at a steps) n
    = total_same (λ a. count_at a (s ∷ steps)) (λ a. one_at s.before.pc a + count_at a steps) n (λ a below. count_first a s steps) ∙ total_sum (one_at s.before.pc) (λ a. count_at a steps) n in
    let own = one_below s.before.pc n (all 0 s (omega arith)) in
    let all_of : total (λ a. count_at a (s ∷ steps)) n ≡ length steps + 1 = omega (arith, rest, split, own) in
    all_of ∙ add-one (length steps)

-- a list adds up to the values that it has
sum_is : (xs : List ℕ) (n : ℕ) → n ≤ length xs → sum (take n xs) ≡ total (slice_index xs) n
unfolding total
sum_is xs zero le = refl
sum_is xs (suc n) le =
    let within : n < length xs = omega (arith, le) in
    let before = sum_is xs n (omega (arith, le)) in
    let more : sum (take (n + 1) xs) ≡ sum (take n xs) + get_or xs n 0 = sum_by_more (λ x. x) xs n 0 within in
    ap (λ k. sum (take k xs)) (sym (add-one n)) ∙ more ∙ ap (λ k. k + get_or xs n 0) before

pub add_up : (steps : List TraceStep) (counts : List ℕ) (n : ℕ) → length counts ≡ n → All (λ s. s.before.pc < n) steps → ((a : ℕ) → a < n → slice_index counts a ≡ count_at a steps) → sum counts ≡ length steps
add_up steps counts n size all each =
    let most : n ≤ length counts = omega (arith, size) in
    ap sum (sym (take_all n counts (omega (arith, size)))) ∙ sum_is counts n most ∙ total_same (slice_index counts) (λ a. count_at a steps) n each ∙ all_counted n steps all
