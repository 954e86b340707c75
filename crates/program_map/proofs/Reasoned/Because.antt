-- The reason of a long jump.
use Rattle.std.proofs.Common.{◌≡◌, ◌<◌, ◌≤◌, ◌+◌, ℕ, List, [], ◌∷◌, Bool, true, false, cond, length, take, get_or, eqb, refl, sym, ◌↔◌, arith, count_by, ap, ◌∙◌, All, inl, inr}
use Rattle.std.specs.List.{filter}
use Rattle.std.proofs.lemmas.Bool.{cases_lt, ne_eqb, both_ways}
use Rattle.std.proofs.lemmas.Bool.Decides.{nat_tests}
use Rattle.std.proofs.lemmas.List.{length-take-le}
use Rattle.std.proofs.lemmas.List.Elements.{All-head, All-tail, All-take, All-weaker, filter_passes}
use Rattle.std.proofs.lemmas.List.Folds.{list_any_none}
use Rattle.std.proofs.lemmas.List.Sums.{length-filter, sum_by-cons, sum_by-take-le}
use Rattle.relax.specs.declared.shape.Statement.{Statement}
use Rattle.relax.specs.Choice.{IsJump, Reaches}
use Rattle.relax.specs.Growth.{IsForcing, after}
use Rattle.program_map.specs.Reasons.Distances.{farthest, jump_distance, lies_between}
use Rattle.program_map.specs.Reasons.Reasons.{IsReason}
use Rattle.program_map.specs.Private.Gathered.{wanted_count}
use Rattle.program_map.proofs.Reasoned.Distinct.{AreDistinct, distinct_filter, distinct_from_forcing, distinct_take}
use Rattle.program_map.proofs.Reasoned.Distance.{distance-after, reach-iff}

-- if every member passes a test, as many pass as there are
count-all : (p : ℕ → Bool) (xs : List ℕ) → All (λ x. p x ≡ true) xs → count_by p xs ≡ length xs
count-all p [] all = refl
count-all p (x ∷ xs) all =
    let one : ◌≡◌ {A = ℕ} (cond (p x) 1 0) 1 = rw (All-head (λ y. p y ≡ true) x xs all) refl in
    omega (arith, sum_by-cons (λ y. cond (p y) 1 0) x xs, count-all p xs (All-tail (λ y. p y ≡ true) x xs all), one)

-- a jump does not go over itself
not_itself : (from to x : ℕ) → lies_between from to x ≡ true → eqb x from ≡ false
not_itself from to x between = ne_eqb x from (λ same. both_ways _ (rw same (itself from to)) between)
  where
    itself : (from to : ℕ) → lies_between from to from ≡ false
    itself from to = grind (arith, nat_tests)

-- jumps that lie between a jump and its target: the distance once they are long
module _ (shape : List Statement) (from to : ℕ) (jump : IsJump shape from to) (jumps : List ℕ) (distinct : AreDistinct shape jumps) (between : All (λ x. lies_between from to x ≡ true) jumps) where
  short : after jumps from ≡ false
  short = list_any_none (λ x. eqb x from) jumps (All-weaker (λ x. lies_between from to x ≡ true) (λ x. eqb x from ≡ false) (not_itself from to) jumps between)

  pub reach-between : Reaches (after jumps) shape from to ↔ (jump_distance (after []) shape from to + length jumps ≤ farthest from to)
  reach-between =
      let distance = distance-after shape jumps distinct from to in
      let count = count-all (lies_between from to) jumps between in
      let iff = reach-iff (after jumps) shape from to jump short in
      (λ reach. (let le = iff.0 reach in omega (arith, distance, count, le)), λ le. iff.1 (omega (arith, distance, count, le)))

-- a jump of a forcing order goes over as many others before it as are wanted
enough : (shape : List Statement) (order : List ℕ) → IsForcing shape order → (i : ℕ) → i < length order → (to : ℕ) → IsJump shape (get_or order i 0) to → wanted_count shape (get_or order i 0) to ≤ count_by (lies_between (get_or order i 0) to) order
enough shape order forcing i lt to jump =
    let from : ℕ = get_or order i 0 in
    let m = forcing i lt in
    let same : m.target ≡ to = (let both = sym m.jump ∙ jump in cc) in
    let distinct = distinct_take shape i order (distinct_from_forcing shape order forcing) in
    let distance = distance-after shape (take i order) distinct from to in
    let iff = reach-iff (after (take i order)) shape from to jump m.short in
    let part = sum_by-take-le (λ x. cond (lies_between from to x) 1 0) order i in
    elim (cases_lt (farthest from to) (jump_distance (after (take i order)) shape from to)) [
      | inl far ↦ omega (arith, distance, part, far)
      | inr near ↦ absurd (m.misses (rw same (iff.1 near)))
    ]

pub is_reason : (shape : List Statement) (order : List ℕ) → IsForcing shape order → (i : ℕ) → i < length order → (to : ℕ) → IsJump shape (get_or order i 0) to → IsReason shape order (get_or order i 0) to (take (wanted_count shape (get_or order i 0) to) (filter (lies_between (get_or order i 0) to) order))
is_reason shape order forcing i lt to jump =
    let from : ℕ = get_or order i 0 in
    let between : List ℕ = filter (lies_between from to) order in
    let n : ℕ = wanted_count shape from to in
    let some : n ≤ length between = omega (arith, enough shape order forcing i lt to jump, length-filter (lies_between from to) order) in
    let len : length (take n between) ≡ n = length-take-le n between some in
    let distinct = distinct_filter shape (lies_between from to) order (distinct_from_forcing shape order forcing) in
    let pass = filter_passes (lies_between from to) order in
    let all = All-take (λ x. lies_between from to x ≡ true) n between pass in
    let reach = reach-between shape from to jump (take n between) (distinct_take shape n between distinct) all in
    record {
      first = ap (λ m. take m between) (sym len);
      suffices = λ near. (let le = reach.0 near in omega (arith, le, len));
      least = λ m lt. (let fewer : length (take m (take n between)) ≡ m = length-take-le m (take n between) (omega arith) in
          let all_part = All-take (λ x. lies_between from to x ≡ true) m (take n between) all in
          let reach_part = reach-between shape from to jump (take m (take n between)) (distinct_take shape m (take n between) (distinct_take shape n between distinct)) all_part in
          reach_part.1 (omega (arith, fewer, len)));
    }

-- it does not reach its target in the choice after the whole order
pub too_far : (shape : List Statement) (order : List ℕ) → IsForcing shape order → (i : ℕ) → i < length order → (to : ℕ) → IsJump shape (get_or order i 0) to → farthest (get_or order i 0) to < jump_distance (after order) shape (get_or order i 0) to
too_far shape order forcing i lt to jump =
    let from : ℕ = get_or order i 0 in
    omega (arith, enough shape order forcing i lt to jump, distance-after shape order (distinct_from_forcing shape order forcing) from to)
