-- The bytes of a record, in their order.
use Rattle.std.proofs.Common.{◌≡◌, ◌<◌, ◌≤◌, ◌+◌, ◌++◌, ◌∷◌, [], ℕ, zero, suc, Bool, true, false, List, Some, length, map, drop, refl, sym, ap, subst, ◌∙◌, arith, append_assoc}
use Rattle.std.specs.Prelude.{cond, get_or, nat_le, nat_lt, slice_get}
use Rattle.std.proofs.lemmas.Bool.Decides.{nat_tests}
use Rattle.std.proofs.lemmas.List.{drop_more}
use Rattle.std.proofs.lemmas.List.Sums.{take_while-cons}
use Rattle.machine_history.specs.Coming.{came_before, due}
use Rattle.cpm_run.specs.declared.arriving.Arrival.{Arrival}

abbrev bytes_of : List Arrival → List ℕ
bytes_of arrivals = map (λ arrival. arrival.byte) arrivals

-- ---- the bytes that are due

pub due_more : (turns : ℕ) (one : Arrival) (rest : List Arrival) → nat_le one.turn turns ≡ true → due turns (one ∷ rest) ≡ one ∷ due turns rest
due_more turns one rest is = take_while-cons (λ arrival. nat_le arrival.turn turns) one rest ∙ ap (λ (b : Bool). cond b (one ∷ due turns rest) []) is

pub due_no_more : (turns : ℕ) (one : Arrival) (rest : List Arrival) → nat_le one.turn turns ≡ false → due turns (one ∷ rest) ≡ []
due_no_more turns one rest is = take_while-cons (λ arrival. nat_le arrival.turn turns) one rest ∙ ap (λ (b : Bool). cond b (one ∷ due turns rest) []) is

-- the bytes that are due, and then those that are not
pub split : (turns : ℕ) (coming : List Arrival) → due turns coming ++ drop (length (due turns coming)) coming ≡ coming
split turns [] = refl
split turns (one ∷ rest) = by_first (nat_le one.turn turns) refl (split turns rest) where
  by_first : (b : Bool) → nat_le one.turn turns ≡ b → due turns rest ++ drop (length (due turns rest)) rest ≡ rest → due turns (one ∷ rest) ++ drop (length (due turns (one ∷ rest))) (one ∷ rest) ≡ one ∷ rest
  by_first true is again = subst (λ (l : List Arrival). l ++ drop (length l) (one ∷ rest) ≡ one ∷ rest) (sym (due_more turns one rest is)) (ap (λ l. one ∷ l) again)
  by_first false is again = subst (λ (l : List Arrival). l ++ drop (length l) (one ∷ rest) ≡ one ∷ rest) (sym (due_no_more turns one rest is)) refl

-- ---- a record in order

-- numbers that do not go down, from this one on
abbrev pub Rising : ℕ → List Arrival → Type 0
Rising n [] = Unit {0}
Rising n (one ∷ rest) = (n ≤ one.turn) × Rising one.turn rest

-- numbers below this one
abbrev pub Below : ℕ → List Arrival → Type 0
Below n [] = Unit {0}
Below n (one ∷ rest) = (one.turn < n) × Below n rest

pub rising : (n : ℕ) (recorded : List Arrival) → ((k : ℕ) (one : Arrival) → slice_get recorded k ≡ Some one → n ≤ one.turn)
    → ((j k : ℕ) (one later : Arrival) → j ≤ k → slice_get recorded j ≡ Some one → slice_get recorded k ≡ Some later → one.turn ≤ later.turn) → Rising n recorded
rising n [] least order = tt
rising n (one ∷ rest) least order = (
  least zero one refl,
  rising one.turn rest (λ k later there. order zero (suc k) one later (omega arith) refl there)
      (λ j k here later after at there. order (suc j) (suc k) here later (omega (arith, after)) at there),
)

-- the same from a lower number on
lower : (n m : ℕ) (coming : List Arrival) → n ≤ m → Rising m coming → Rising n coming
lower n m [] least order = tt
lower n m (one ∷ rest) least order = (let first = order.0 in omega (arith, least, first), order.1)

-- These are the bytes of a record in order that are due, so they came after exactly this number of turns, and the others come later.
abbrev pub AreDue : ℕ → List Arrival → List Arrival → Type 0
AreDue n coming now = (map (λ byte. record { turn = n; byte = byte }) (bytes_of now) ≡ now) × Below (n + 1) now × Rising (n + 1) (drop (length now) coming)

pub due_now : (n : ℕ) (coming : List Arrival) → Rising n coming → AreDue n coming (due n coming)
due_now n [] order = (refl, tt, tt)
due_now n (one ∷ rest) order = by_first (nat_le one.turn n) refl (λ order. due_now n rest order) where
  by_first : (b : Bool) → nat_le one.turn n ≡ b → (Rising n rest → AreDue n rest (due n rest)) → AreDue n (one ∷ rest) (due n (one ∷ rest))
  by_first true is again =
      let first = order.0 in
      let most : one.turn ≤ n = grind (arith, nat_tests, is) in
      let now : n ≡ one.turn = omega (arith, first, most) in
      let others = again (lower n one.turn rest first order.1) in
      subst (AreDue n (one ∷ rest)) (sym (due_more n one rest is)) (
        ap (λ (k : ℕ). record { turn = k; byte = one.byte } ∷ map (λ byte. record { turn = n; byte = byte }) (bytes_of (due n rest))) now ∙ ap (λ l. one ∷ l) others.0,
        (omega (arith, most), others.1),
        others.2,
      )
  by_first false is again =
      let most : n < one.turn = grind (arith, nat_tests, is) in
      subst (AreDue n (one ∷ rest)) (sym (due_no_more n one rest is)) (refl, tt, (omega (arith, most), order.1))

pub below_more : (n m : ℕ) (front : List Arrival) → n ≤ m → Below n front → Below m front
below_more n m [] least all = tt
below_more n m (one ∷ front) least all = (let first = all.0 in omega (arith, least, first), below_more n m front least all.1)

pub below_both : (n : ℕ) (front more : List Arrival) → Below n front → Below n more → Below n (front ++ more)
below_both n [] more all also = also
below_both n (one ∷ front) more all also = (all.0, below_both n front more all.1 also)

-- The bytes that have come are those of the record that were to come before.
pub all_before : (n : ℕ) (front coming : List Arrival) → Below n front → Rising n coming → came_before n (front ++ coming) ≡ front
all_before n [] [] all order = refl
all_before n [] (one ∷ rest) all order =
    let first = order.0 in
    take_while-cons (λ arrival. nat_lt arrival.turn n) one rest ∙ ap (λ (b : Bool). cond b (one ∷ came_before n rest) []) (let no : nat_lt one.turn n ≡ false = grind (arith, nat_tests, first) in no)
all_before n (one ∷ front) coming all order =
    let first = all.0 in
    take_while-cons (λ arrival. nat_lt arrival.turn n) one (front ++ coming) ∙ ap (λ (b : Bool). cond b (one ∷ came_before n (front ++ coming)) []) (let yes : nat_lt one.turn n ≡ true = grind (arith, nat_tests, first) in yes)
    ∙ ap (λ l. one ∷ l) (all_before n front coming all.1 order)

-- one more byte is due
pub bytes_more : (turns : ℕ) (coming : List Arrival) (i : ℕ) (d : Arrival) (bytes new all : List ℕ) → i < length coming → (get_or coming i d).turn ≤ turns → new ≡ bytes ++ (get_or coming i d).byte ∷ []
    → bytes ++ bytes_of (due turns (drop i coming)) ≡ all → new ++ bytes_of (due turns (drop (i + 1) coming)) ≡ all
bytes_more turns coming i d bytes new all inside most is known =
    let one = get_or coming i d in
    let rest = drop (i + 1) coming in
    let yes : nat_le one.turn turns ≡ true = grind (arith, nat_tests, most) in
    let front : bytes_of (due turns (drop i coming)) ≡ one.byte ∷ bytes_of (due turns rest) = ap (λ l. bytes_of (due turns l)) (drop_more coming i d inside) ∙ ap bytes_of (due_more turns one rest yes) in
    ap (λ l. l ++ bytes_of (due turns rest)) is ∙ append_assoc bytes (one.byte ∷ []) (bytes_of (due turns rest)) ∙ ap (λ l. bytes ++ l) (sym front) ∙ known
