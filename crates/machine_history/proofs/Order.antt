-- Numbers of steps that do not go down.
use Rattle.std.proofs.Common.{◌≡◌, ◌<◌, ◌≤◌, ◌+◌, ◌⊎◌, ℕ, List, Some, inl, inr, length, slice_get, refl, sym, ap, ◌∙◌, arith}
use Rattle.std.proofs.lemmas.Bool.{cases_lt}
use Rattle.std.proofs.lemmas.Option.{get_or_from_slice_get, slice_get-get_or}
use Rattle.std.specs.Prelude.{get_or}
use Rattle.cpm_run.specs.Play.{IsInOrder}
use Rattle.cpm_run.specs.declared.arriving.Arrival.{Arrival}

abbrev pub no_arrival : Arrival
no_arrival = record { turn = 0; byte = 0 }

-- The numbers of the first of them do not go down, none is above the most, and one of them is the most, unless that is 0.
pub record Rises (arrivals : List Arrival) (count most : ℕ) : Type 0 where
  pub rising : (j k : ℕ) (one later : Arrival) → j ≤ k → k < count → slice_get arrivals j ≡ Some one → slice_get arrivals k ≡ Some later → one.turn ≤ later.turn
  pub within : (k : ℕ) (one : Arrival) → k < count → slice_get arrivals k ≡ Some one → one.turn ≤ most
  pub met : (most ≡ 0) ⊎ ((k : ℕ) × (one : Arrival) × (k < count) × (slice_get arrivals k ≡ Some one) × (one.turn ≡ most))

-- with one more
pub rises_on : (arrivals : List Arrival) (count most : ℕ) → count < length arrivals → most ≤ (get_or arrivals count no_arrival).turn → Rises arrivals count most
    → Rises arrivals (count + 1) (get_or arrivals count no_arrival).turn
rises_on arrivals count most inside above rises = record { rising = rising; within = within; met = inr (count, get_or arrivals count no_arrival, omega arith, slice_get-get_or arrivals count no_arrival inside, refl) } where
  below : (k : ℕ) (one : Arrival) → k < count + 1 → slice_get arrivals k ≡ Some one → one.turn ≤ (get_or arrivals count no_arrival).turn
  below k one inside is = elim (cases_lt k count) [
    | inl before ↦ let least = rises.within k one before is in omega (arith, least, above)
    | inr last ↦
        let here : k ≡ count = omega (arith, inside, last) in
        let same : get_or arrivals count no_arrival ≡ one = ap (λ (n : ℕ). get_or arrivals n no_arrival) (sym here) ∙ get_or_from_slice_get arrivals k one no_arrival is in
        let turns = ap (λ (a : Arrival). a.turn) same in omega (arith, turns)
  ]

  within : (k : ℕ) (one : Arrival) → k < count + 1 → slice_get arrivals k ≡ Some one → one.turn ≤ (get_or arrivals count no_arrival).turn
  within = below

  rising : (j k : ℕ) (one later : Arrival) → j ≤ k → k < count + 1 → slice_get arrivals j ≡ Some one → slice_get arrivals k ≡ Some later → one.turn ≤ later.turn
  rising j k one later order inside first second = elim (cases_lt k count) [
    | inl before ↦ rises.rising j k one later order before first second
    | inr last ↦
        let here : k ≡ count = omega (arith, inside, last) in
        let same : get_or arrivals count no_arrival ≡ later = ap (λ (n : ℕ). get_or arrivals n no_arrival) (sym here) ∙ get_or_from_slice_get arrivals k later no_arrival second in
        let turns = ap (λ (a : Arrival). a.turn) same in
        let least = below j one (omega (arith, order, inside)) first in omega (arith, turns, least)
  ]

-- numbers that are in order, of which one is below an earlier one, or the last below one of them
pub falls : (arrivals : List Arrival) (count most last : ℕ) → count < length arrivals → (get_or arrivals count no_arrival).turn < most → Rises arrivals count most → ¬ IsInOrder arrivals last
falls arrivals count most last inside below rises order = elim rises.met [
  | inl none ↦ (omega (arith, none, below))
  | inr some ↦
      let least = order.rising some.0 count some.1 (get_or arrivals count no_arrival) (let before = some.2 in omega (arith, before)) some.3 (slice_get-get_or arrivals count no_arrival inside) in
      let most_is = some.4 in (omega (arith, least, most_is, below))
]

pub too_early : (arrivals : List Arrival) (count most last : ℕ) → last < most → Rises arrivals count most → ¬ IsInOrder arrivals last
too_early arrivals count most last below rises order = elim rises.met [
  | inl none ↦ (omega (arith, none, below))
  | inr some ↦
      let least = order.within some.0 some.1 some.3 in
      let most_is = some.4 in (omega (arith, least, most_is, below))
]
