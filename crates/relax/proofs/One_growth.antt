-- A shape has one least-first order, and a choice one verdict.
use Rattle.std.proofs.Common.{◌≡◌, ℕ, zero, suc, ◌+◌, ◌<◌, ◌≤◌, List, length, refl, arith, inl, inr, sym, ap, subst, ◌∙◌, take, get_or}
use Rattle.std.proofs.lemmas.Bool.{cases_lt}
use Rattle.std.proofs.lemmas.List.{take_all, take_more_same}
use Rattle.relax.specs.Choice.{Choice, IsLowestShortMiss, ShortsReach}
use Rattle.relax.specs.declared.shape.Statement.{Statement}
use Rattle.relax.specs.declared.growth.Verdict.{Verdict}
use Rattle.relax.specs.declared.growth.Verdict.TheVariants.{Best, Range, TooLarge}
use Rattle.relax.specs.Growth.{Holds, IsLeastFirst, Misses, SettledBelow, after}

-- no jump below the lowest one that misses its target misses it
not_behind : (c : Choice) (shape : List Statement) (j k : ℕ) → Misses c shape j → SettledBelow c shape k → j < k → ⊥
not_behind c shape j k m below lt = m.misses (below j m.target lt m.jump m.short)

lowest_is_one : (c : Choice) (shape : List Statement) (j k : ℕ) → Misses c shape j → SettledBelow c shape j → Misses c shape k → SettledBelow c shape k → j ≡ k
lowest_is_one c shape j k m below n above =
    elim (cases_lt j k) [
      | inl lt ↦ absurd (not_behind c shape j k m above lt)
      | inr ge ↦ elim (cases_lt k j) [
        | inl lt ↦ absurd (not_behind c shape k j n below lt)
        | inr le ↦ omega arith
      ]
    ]

-- two orders agree as far as both go
agree : (shape : List Statement) (a b : List ℕ) → IsLeastFirst shape a → IsLeastFirst shape b → (i : ℕ) → i ≤ length a → i ≤ length b → take i a ≡ take i b
agree shape a b of_a of_b zero le ge = refl
agree shape a b of_a of_b (suc i) le ge =
    let before = agree shape a b of_a of_b i (omega arith) (omega arith) in
    let in_a : i < length a = omega arith in
    let in_b : i < length b = omega arith in
    let here : get_or a i 0 ≡ get_or b i 0 =
    lowest_is_one (after (take i b)) shape (get_or a i 0) (get_or b i 0) (rw (← before) (of_a.forcing i in_a)) (rw (← before) (of_a.lowest i in_a)) (of_b.forcing i in_b) (of_b.lowest i in_b) in
    let e : suc i ≡ i + 1 = omega arith in
    rw e (take_more_same a b i 0 in_a in_b before here)

-- neither order is longer than the other
no_longer : (shape : List Statement) (a b : List ℕ) → IsLeastFirst shape a → IsLeastFirst shape b → length a < length b → ⊥
no_longer shape a b of_a of_b lt =
    let before : a ≡ take (length a) b = sym (take_all (length a) a (omega arith)) ∙ agree shape a b of_a of_b (length a) (omega arith) (omega arith) in
    let more : Misses (after a) shape (get_or b (length a) 0) =
    subst (λ earlier. Misses (after earlier) shape (get_or b (length a) 0)) (sym before) (of_b.forcing (length a) lt) in
    more.misses (of_a.settled (get_or b (length a) 0) more.target more.jump more.short)

pub one_order : (shape : List Statement) (a b : List ℕ) → IsLeastFirst shape a → IsLeastFirst shape b → a ≡ b
one_order shape a b of_a of_b =
    elim (cases_lt (length a) (length b)) [
      | inl lt ↦ absurd (no_longer shape a b of_a of_b lt)
      | inr ge ↦ elim (cases_lt (length b) (length a)) [
        | inl lt ↦ absurd (no_longer shape b a of_b of_a lt)
        | inr le ↦
            sym (take_all (length a) a (omega arith)) ∙ agree shape a b of_a of_b (length a) (omega arith) (omega arith) ∙ take_all (length a) b (omega arith)
      ]
    ]

none_misses : (c : Choice) (shape : List Statement) (k : ℕ) → ShortsReach c shape → IsLowestShortMiss c shape k → ⊥
none_misses c shape k reach lowest = lowest.misses (reach k lowest.target lowest.jump)

misses_are_one : (c : Choice) (shape : List Statement) (j k : ℕ) → IsLowestShortMiss c shape j → IsLowestShortMiss c shape k → j ≡ k
misses_are_one c shape j k one other =
    elim (cases_lt j k) [
      | inl lt ↦ absurd (one.misses (other.below j one.target lt one.jump))
      | inr ge ↦ elim (cases_lt k j) [
        | inl lt ↦ absurd (other.misses (one.below k other.target lt other.jump))
        | inr le ↦ omega arith
      ]
    ]

pub one_verdict : (c : Choice) (shape : List Statement) (v w : Verdict) → Holds c shape v → Holds c shape w → v ≡ w
one_verdict c shape (Best m) (Best n) of_v of_w = ap Best (sym of_v.1 ∙ of_w.1)
one_verdict c shape (Best m) (Range k) of_v of_w = absurd (none_misses c shape k of_v.0.valid.shorts of_w.lowest)
one_verdict c shape (Best m) (TooLarge n) of_v of_w = absurd (let fits = of_v.0.valid.fits in let bytes = of_w.bytes in let above = of_w.above in omega arith)
one_verdict c shape (Range j) (Best n) of_v of_w = absurd (none_misses c shape j of_w.0.valid.shorts of_v.lowest)
one_verdict c shape (Range j) (Range k) of_v of_w = ap Range (misses_are_one c shape j k of_v.lowest of_w.lowest)
one_verdict c shape (Range j) (TooLarge n) of_v of_w = absurd (none_misses c shape j of_w.shorts of_v.lowest)
one_verdict c shape (TooLarge m) (Best n) of_v of_w = absurd (let fits = of_w.0.valid.fits in let bytes = of_v.bytes in let above = of_v.above in omega arith)
one_verdict c shape (TooLarge m) (Range k) of_v of_w = absurd (none_misses c shape k of_v.shorts of_w.lowest)
one_verdict c shape (TooLarge m) (TooLarge n) of_v of_w = ap TooLarge (sym of_v.bytes ∙ of_w.bytes)
