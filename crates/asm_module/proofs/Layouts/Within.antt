-- The number of the next statement is at most the count of all statements.
use Rattle.std.proofs.Common.{◌≤◌, ℕ, zero, suc, Bool, List, [], ◌∷◌, Option, ap, map, length, take, slice_index, length-append, arith}
use Rattle.std.specs.List.{filter_map}
use Rattle.std.proofs.lemmas.List.{take-append-drop}
use Rattle.std.proofs.lemmas.List.Elements.{filter_map-append}
use Rattle.std.specs.Prelude.{drop}
use Rattle.asm_expr.specs.Names.{Table}
use Rattle.asm_names.specs.Lines.{Taken, placed}
use Rattle.asm_names.specs.Layout.{next_at}
use Rattle.asm_module.specs.Layouts.Laid.{laid, line_sized, statements}

-- an index past the end of a list gives 0
few_mapped : {A : Type 0} (f : A → ℕ) (n : ℕ) → ((x : A) → f x ≤ n) → (xs : List A) (at : ℕ) → slice_index (map f xs) at ≤ n
few_mapped f n each [] at = omega arith
few_mapped f n each (x ∷ xs) zero = each x
few_mapped f n each (x ∷ xs) (suc at) = few_mapped f n each xs at

few_taken : {A B : Type 0} (h : A → Option B) (k : ℕ) (xs : List A) → length (filter_map h (take k xs)) ≤ length (filter_map h xs)
few_taken h k xs =
    let whole = ap (λ ys. length (filter_map h ys)) (take-append-drop k xs) in
    let parts = ap length (filter_map-append h (take k xs) (drop k xs)) in
    let sum = length-append (filter_map h (take k xs)) (filter_map h (drop k xs)) in
    omega (arith, whole, parts, sum)

pub within : (grow : Bool) (t : Table) (lines : List Taken) (at : ℕ) → next_at (laid grow t lines) at ≤ length (statements grow t lines)
within grow t lines at =
    few_mapped (λ l. length (statements grow t (take l.0 lines))) (length (statements grow t lines)) (λ l. few_taken (λ m. line_sized grow t m.line) l.0 lines) (placed lines) at
