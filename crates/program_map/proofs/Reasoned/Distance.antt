-- How the distance of a jump depends on the long jumps in between.
use Rattle.std.proofs.Common.{◌≡◌, ◌<◌, ◌≤◌, ◌+◌, ℕ, List, [], ◌∷◌, false, cond, eqb, refl, ◌↔◌, arith, inl, inr, count_by, ap, ◌∙◌, ltb}
use Rattle.std.specs.List.{sum_by}
use Rattle.std.proofs.Math.Bool.{or_comm}
use Rattle.std.proofs.lemmas.Bool.{cases_lt, lt-ltb, le-ltb}
use Rattle.std.proofs.lemmas.Bool.Decides.{nat_tests}
use Rattle.std.proofs.lemmas.List.Sums.{sum_by-cons}
use Rattle.relax.specs.declared.shape.Statement.{Statement}
use Rattle.relax.specs.declared.shape.Statement.TheVariants.{Jump}
use Rattle.relax.specs.Choice.{Choice, IsJump, Reaches, bytes_before, size_at, size_of}
use Rattle.relax.specs.Ruler.{IsLengthened}
use Rattle.relax.proofs.Moves.{moved}
use Rattle.relax.proofs.Places.{bytes-le, bytes-next, size-there}
use Rattle.relax.specs.Growth.{after}
use Rattle.program_map.specs.Reasons.Distances.{farthest, jump_distance, lies_between}
use Rattle.program_map.proofs.Reasoned.Distinct.{AreDistinct}

-- each long jump moves what follows it by a byte
bytes-after : (shape : List Statement) (jumps : List ℕ) → AreDistinct shape jumps → (k : ℕ) → bytes_before (after jumps) shape k ≡ bytes_before (after []) shape k + count_by (λ m. ltb m k) jumps
bytes-after shape [] all k = omega arith
bytes-after shape (j ∷ rest) all k =
    let longer : IsLengthened (after rest) (after (j ∷ rest)) j = λ i. or_comm (eqb j i) (after rest i) in
    let moves = moved (after rest) (after (j ∷ rest)) shape j all.0.0 all.0.1 all.1 longer k in
    let ih = bytes-after shape rest all.2 k in
    let sum = sum_by-cons (λ m. cond (ltb m k) 1 0) j rest in
    elim (cases_lt j k) [
      | inl before ↦ (let one : ◌≡◌ {A = ℕ} (cond (ltb j k) 1 0) 1 = rw (lt-ltb j k before) refl in let step = moves.1 before in omega (arith, sum, ih, one, step))
      | inr behind ↦ (let none : ◌≡◌ {A = ℕ} (cond (ltb j k) 1 0) 0 = rw (le-ltb j k behind) refl in let step = moves.0 behind in omega (arith, sum, ih, none, step))
    ]

sum_of : (f g h : ℕ → ℕ) → ((x : ℕ) → f x ≡ g x + h x) → (xs : List ℕ) → sum_by f xs ≡ sum_by g xs + sum_by h xs
sum_of f g h each [] = refl
sum_of f g h each (x ∷ xs) = omega (arith, sum_by-cons f x xs, sum_by-cons g x xs, sum_by-cons h x xs, each x, sum_of f g h each xs)

forward : (from to : ℕ) → from < to → (x : ℕ) → ◌≡◌ {A = ℕ} (cond (ltb x to) 1 0) (cond (ltb x (from + 1)) 1 0 + cond (lies_between from to x) 1 0)
forward from to lt x = grind (arith, nat_tests)

back : (from to : ℕ) → to ≤ from → (x : ℕ) → ◌≡◌ {A = ℕ} (cond (ltb x from) 1 0) (cond (ltb x to) 1 0 + cond (lies_between from to x) 1 0)
back from to le x = grind (arith, nat_tests)

-- each long jump in between makes the distance one byte longer
pub distance-after : (shape : List Statement) (jumps : List ℕ) → AreDistinct shape jumps → (from to : ℕ) → jump_distance (after jumps) shape from to ≡ jump_distance (after []) shape from to + count_by (lies_between from to) jumps
distance-after shape jumps all from to =
    let at_from = bytes-after shape jumps all from in
    let at_next = bytes-after shape jumps all (from + 1) in
    let at_to = bytes-after shape jumps all to in
    elim (cases_lt from to) [
      | inl ahead ↦ (let up = bytes-le (after []) shape (from + 1) to (omega arith) in
          let counts = sum_of (λ m. cond (ltb m to) 1 0) (λ m. cond (ltb m (from + 1)) 1 0) (λ m. cond (lies_between from to m) 1 0) (forward from to ahead) jumps in
          rw (lt-ltb from to ahead) (omega (arith, at_next, at_to, counts, up)))
      | inr behind ↦ (let up = bytes-le (after []) shape to from behind in
          let counts = sum_of (λ m. cond (ltb m from) 1 0) (λ m. cond (ltb m to) 1 0) (λ m. cond (lies_between from to m) 1 0) (back from to behind) jumps in
          rw (le-ltb from to behind) (omega (arith, at_from, at_to, counts, up)))
    ]

-- a short jump reaches its target if it goes no more bytes than it can
pub reach-iff : (c : Choice) (shape : List Statement) (from to : ℕ) → IsJump shape from to → c from ≡ false → Reaches c shape from to ↔ (jump_distance c shape from to ≤ farthest from to)
reach-iff c shape from to jump short =
    let two : size_at c shape from ≡ 2 = size-there c shape from (Jump to) jump ∙ ap (λ b. size_of b (Jump to)) short in
    let next = bytes-next c shape from in
    elim (cases_lt from to) [
      | inl ahead ↦ (let up = bytes-le c shape (from + 1) to (omega arith) in
          rw (lt-ltb from to ahead) (λ near. (let a = near.0 in let b = near.1 in omega (arith, two, next, up)), λ le. (omega (arith, two, next, up), omega (arith, two, next, up))))
      | inr behind ↦ (let up = bytes-le c shape to from behind in
          rw (le-ltb from to behind) (λ near. (let a = near.0 in omega (arith, up)), λ le. (omega (arith, up), omega (arith, up))))
    ]
