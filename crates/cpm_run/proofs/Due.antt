-- When the bytes of a record are due.
use Rattle.std.proofs.Common.{◌≡◌, ◌<◌, ◌≤◌, ◌+◌, ◌∷◌, [], ℕ, zero, suc, List, Some, drop, get_or, length, max, min, slice_get, refl, subst, sym, ap, ◌∙◌, arith}
use Rattle.std.proofs.lemmas.List.{drop_all}
use Rattle.cpm_run.specs.declared.arriving.Arrival.{Arrival}
use Rattle.cpm_run.specs.Play.{IsInOrder, due_from, last_due}

-- the default for a place outside of the record
abbrev pub no_arrival : Arrival
no_arrival = record { turn = 0; byte = 0 }

abbrev pub recorded_at : List Arrival → ℕ → Arrival
recorded_at recorded i = get_or recorded i no_arrival

one_arrival : (x y : Arrival) → Some x ≡ Some y → x ≡ y
one_arrival x y is = cc

same_time : (x y : Arrival) → Some x ≡ Some y → x.turn ≡ y.turn
same_time x y is = ap (λ (a : Arrival). a.turn) (one_arrival x y is)

-- ---- what is due is in order

least : (n : ℕ) (recorded : List Arrival) (k : ℕ) (one : Arrival) → slice_get (due_from n recorded) k ≡ Some one → n ≤ one.turn
least n [] k one here = absurd cc
least n (x ∷ xs) zero one here = let t = same_time (record { turn = max n x.turn; byte = x.byte }) one here in omega (arith, t)
least n (x ∷ xs) (suc k) one here = let rest = least (max n x.turn) xs k one here in omega (arith, rest)

last_least : (n : ℕ) (recorded : List Arrival) (last : ℕ) → n ≤ last_due n recorded last
last_least n [] last = omega arith
last_least n (x ∷ xs) last = let rest = last_least (max n x.turn) xs last in omega (arith, rest)

most : (n : ℕ) (recorded : List Arrival) (last k : ℕ) (one : Arrival) → slice_get (due_from n recorded) k ≡ Some one → one.turn ≤ last_due n recorded last
most n [] last k one here = absurd cc
most n (x ∷ xs) last zero one here =
    let t = same_time (record { turn = max n x.turn; byte = x.byte }) one here in
    let rest = last_least (max n x.turn) xs last in
    omega (arith, t, rest)
most n (x ∷ xs) last (suc k) one here = most (max n x.turn) xs last k one here

rises : (n : ℕ) (recorded : List Arrival) (j k : ℕ) (one later : Arrival) → j ≤ k → slice_get (due_from n recorded) j ≡ Some one → slice_get (due_from n recorded) k ≡ Some later → one.turn ≤ later.turn
rises n [] j k one later le here there = absurd cc
rises n (x ∷ xs) zero zero one later le here there =
    let t = same_time (record { turn = max n x.turn; byte = x.byte }) one here in
    let s = same_time (record { turn = max n x.turn; byte = x.byte }) later there in
    omega (arith, t, s)
rises n (x ∷ xs) zero (suc k) one later le here there =
    let t = same_time (record { turn = max n x.turn; byte = x.byte }) one here in
    let rest = least (max n x.turn) xs k later there in
    omega (arith, t, rest)
rises n (x ∷ xs) (suc j) zero one later le here there = absurd (omega (arith, le))
rises n (x ∷ xs) (suc j) (suc k) one later le here there = rises (max n x.turn) xs j k one later (omega (arith, le)) here there

pub due_in_order : (n : ℕ) (recorded : List Arrival) (last : ℕ) → IsInOrder (due_from n recorded) (last_due n recorded last)
due_in_order n recorded last = record { rising = rises n recorded; within = most n recorded last }

-- ---- what is in order is due as it is

tail_in_order : (x : Arrival) (xs : List Arrival) (last : ℕ) → IsInOrder (x ∷ xs) last → IsInOrder xs last
tail_in_order x xs last order = record {
  rising = λ j k one later le here there. order.rising (suc j) (suc k) one later (omega (arith, le)) here there;
  within = λ k one here. order.within (suc k) one here;
}

due_as_is : (n : ℕ) (recorded : List Arrival) (last : ℕ) → IsInOrder recorded last → ((k : ℕ) (one : Arrival) → slice_get recorded k ≡ Some one → n ≤ one.turn) → due_from n recorded ≡ recorded
due_as_is n [] last order low = refl
due_as_is n (x ∷ xs) last order low =
    let at = low 0 x refl in
    let time : max n x.turn ≡ x.turn = omega (arith, at) in
    ap (λ (t : ℕ). record { turn = t; byte = x.byte } ∷ due_from t xs) time
    ∙ ap (λ (l : List Arrival). x ∷ l) (due_as_is x.turn xs last (tail_in_order x xs last order) (λ k one here. order.rising 0 (suc k) x one (omega arith) refl here))

last_as_is : (n : ℕ) (recorded : List Arrival) (last : ℕ) → IsInOrder recorded last → ((k : ℕ) (one : Arrival) → slice_get recorded k ≡ Some one → n ≤ one.turn) → n ≤ last → last_due n recorded last ≡ last
last_as_is n [] last order low below = omega (arith, below)
last_as_is n (x ∷ xs) last order low below =
    let at = low 0 x refl in
    let time : max n x.turn ≡ x.turn = omega (arith, at) in
    ap (λ (t : ℕ). last_due t xs last) time ∙ last_as_is x.turn xs last (tail_in_order x xs last order) (λ k one here. order.rising 0 (suc k) x one (omega arith) refl here) (order.within 0 x refl)

pub due_same : (recorded : List Arrival) (last : ℕ) → IsInOrder recorded last → due_from 0 recorded ≡ recorded
due_same recorded last order = due_as_is 0 recorded last order (λ k one here. omega arith)

pub last_same : (recorded : List Arrival) (last : ℕ) → IsInOrder recorded last → last_due 0 recorded last ≡ last
last_same recorded last order = last_as_is 0 recorded last order (λ k one here. omega arith) (omega arith)

-- ---- one byte after the other

pub due_length : (n : ℕ) (recorded : List Arrival) → length (due_from n recorded) ≡ length recorded
due_length n [] = refl
due_length n (x ∷ xs) = let rest = due_length (max n x.turn) xs in omega (arith, rest)

at_drop : (i : ℕ) (ys : List Arrival) (z : Arrival) (zs : List Arrival) → drop i ys ≡ z ∷ zs → (recorded_at ys i ≡ z) × (drop (suc i) ys ≡ zs)
at_drop zero [] z zs is = absurd cc
at_drop zero (y ∷ ys) z zs is = (cc, cc)
at_drop (suc i) [] z zs is = absurd cc
at_drop (suc i) (y ∷ ys) z zs is = at_drop i ys z zs is

drop_next : (i : ℕ) (xs : List Arrival) → i < length xs → drop i xs ≡ recorded_at xs i ∷ drop (suc i) xs
drop_next i [] inside = absurd (omega (arith, inside))
drop_next zero (x ∷ xs) inside = refl
drop_next (suc i) (x ∷ xs) inside = drop_next i xs (omega (arith, inside))

-- After this number of steps this many bytes of a record have come. When the rest is due, and how many steps are made in all, depends on no more.
pub record IsDueFrom (recorded : List Arrival) (last i n : ℕ) : Type 0 where
  pub rest : drop i (due_from 0 recorded) ≡ due_from n (drop i recorded)
  pub end : last_due 0 recorded last ≡ last_due n (drop i recorded) last

pub due_at_first : (recorded : List Arrival) (last n : ℕ) → n ≡ 0 → IsDueFrom recorded last 0 n
due_at_first recorded last n none = record { rest = ap (λ (m : ℕ). due_from m recorded) (sym none); end = ap (λ (m : ℕ). last_due m recorded last) (sym none) }

pub next_due : (recorded : List Arrival) (last i n : ℕ) → i < length recorded → IsDueFrom recorded last i n
    → (recorded_at (due_from 0 recorded) i ≡ record { turn = max n (recorded_at recorded i).turn; byte = (recorded_at recorded i).byte }) × IsDueFrom recorded last (i + 1) (max n (recorded_at recorded i).turn)
next_due recorded last i n inside due =
    let next = drop_next i recorded inside in
    let at = at_drop i (due_from 0 recorded) (record { turn = max n (recorded_at recorded i).turn; byte = (recorded_at recorded i).byte }) (due_from (max n (recorded_at recorded i).turn) (drop (suc i) recorded)) (due.rest ∙ ap (λ (l : List Arrival). due_from n l) next) in
    let one : suc i ≡ i + 1 = omega arith in
    (at.0, subst (λ (j : ℕ). IsDueFrom recorded last j (max n (recorded_at recorded i).turn)) one (record { rest = at.1; end = due.end ∙ ap (λ (l : List Arrival). last_due n l last) next }))

pub none_due : (recorded : List Arrival) (last i n : ℕ) → length recorded ≤ i → IsDueFrom recorded last i n → last_due 0 recorded last ≡ max n last
none_due recorded last i n outside due = due.end ∙ ap (λ (l : List Arrival). last_due n l last) (drop_all i recorded outside)

-- no more steps are made than the next byte allows
pub within_due : (n t limit target turns due : ℕ) → target ≡ min t limit → turns ≤ max n target → n ≤ limit → due ≡ max n t → turns ≤ min due limit
within_due n t limit target turns due is below bound at = omega (arith, is, below, bound, at)

-- the number of steps at which a byte comes
pub in_due_time : (n t limit target turns due : ℕ) → target ≡ min t limit → target ≤ turns → turns ≤ max n target → n ≤ turns → turns < limit → due ≡ max n t → turns ≡ due
in_due_time n t limit target turns due is reached below later inside at = omega (arith, is, reached, below, later, inside, at)
