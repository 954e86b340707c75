-- The bytes before a statement, step by step.
use Rattle.std.proofs.Common.{◌≡◌, inl, inr, ℕ, zero, suc, ◌+◌, ◌≤◌, List, Some, refl, ap, arith}
use Rattle.std.specs.List.{slice_get}
use Rattle.std.specs.Option.{option_map_or}
use Rattle.std.proofs.lemmas.Bool.{cases_lt}
use Rattle.relax.specs.declared.shape.Statement.{Statement}
use Rattle.relax.specs.Choice.{Choice, size_of, size_at, bytes_before, place}

pub bytes-zero : (c : Choice) (shape : List Statement) → bytes_before c shape 0 ≡ 0
unfolding bytes_before
bytes-zero c shape = refl

pub bytes-next : (c : Choice) (shape : List Statement) (k : ℕ) → bytes_before c shape (k + 1) ≡ bytes_before c shape k + size_at c shape k
unfolding bytes_before
bytes-next c shape k = let e : k + 1 ≡ suc k = omega arith in ap (bytes_before c shape) e

pub size-there : (c : Choice) (shape : List Statement) (k : ℕ) (s : Statement) → slice_get shape k ≡ Some s → size_at c shape k ≡ size_of (c k) s
size-there c shape k s e = ap (λ o. option_map_or (size_of (c k)) o 0) e

pub bytes-le : (c : Choice) (shape : List Statement) (a b : ℕ) → a ≤ b → bytes_before c shape a ≤ bytes_before c shape b
bytes-le c shape a zero le = let e : a ≡ 0 = omega arith in rw e (omega arith)
bytes-le c shape a (suc b) le =
    elim (cases_lt b a) as (λ _. bytes_before c shape a ≤ bytes_before c shape (suc b)) [
      | inl lt ↦ (let e : a ≡ suc b = omega arith in rw e (omega arith))
      | inr ge ↦ (let next : suc b ≡ b + 1 = omega arith in rw next (omega (arith, bytes-le c shape a b ge, bytes-next c shape b)))
    ]

-- the address of the next statement
pub place-next : (c : Choice) (shape : List Statement) (k : ℕ) (s : Statement) → slice_get shape k ≡ Some s → place c shape (k + 1) ≡ place c shape k + size_of (c k) s
place-next c shape k s e = omega (arith, bytes-next c shape k, size-there c shape k s e)
