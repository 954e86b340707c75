-- Addresses that step by each known size are as far apart as the statements between them say.
use Rattle.std.proofs.Common.{◌≡◌, ◌≤◌, ◌<◌, ℕ, zero, suc, ◌+◌, ◌-◌, ◌%◌, Bool, true, false, List, [], ◌∷◌, Some, length, take, drop, get_or, slice_get, nat_lt, nat_le, if◌then◌else◌, ◌||◌, refl, sym, ap, subst, ◌∙◌, arith}
use Rattle.std.specs.List.{list_any, sum_by}
use Rattle.std.proofs.lemmas.List.{at_drop_more}
use Rattle.std.proofs.lemmas.List.Sums.{sum_by-cons}
use Rattle.std.proofs.lemmas.Option.{slice_get-get_or}
use Rattle.std.proofs.lemmas.Bool.{leb-true, leb-false, ltb-false}
use Rattle.asm_parse.specs.Types.{Binary, Atom, Statement, Worth}
use Rattle.asm_parse.specs.Values.Arithmetic.{modulus}
use Rattle.asm_parse.specs.Expression.{Leaf, Infix}
use Rattle.asm_parse.specs.Values.Items.{value}
use Rattle.asm_parse.specs.Values.Distances.{is_relaxable, is_unsized, statement_bytes, statements_between, bytes_taken, backwards, distance, Step}

-- the next address
step_on : (places : ℕ → ℕ) (low m n s : ℕ) → places (low + 1) % modulus ≡ (places low + n) % modulus → places ((low + 1) + m) % modulus ≡ (places (low + 1) + s) % modulus
    → places (low + suc m) % modulus ≡ (places low + (n + s)) % modulus
step_on places low m n s one rest =
    let same : places (low + suc m) ≡ places ((low + 1) + m) = ap places (omega arith) in
    omega (arith, one, rest, same)

take_none : (statements : List Statement) → take 0 statements ≡ []
take_none [] = refl
take_none (x ∷ xs) = refl

-- Stepping over some statements of known sizes.
pub walk : (statements : List Statement) (places : ℕ → ℕ) → Step statements places → (m low : ℕ) → low + m ≤ length statements
    → list_any is_relaxable (take m (drop low statements)) ≡ false → list_any is_unsized (take m (drop low statements)) ≡ false
    → places (low + m) % modulus ≡ (places low + sum_by statement_bytes (take m (drop low statements))) % modulus
walk statements places step zero low h steady sized =
    let same : places (low + 0) ≡ places low = ap places (omega arith) in
    let none : sum_by statement_bytes (take 0 (drop low statements)) ≡ 0 = ap (sum_by statement_bytes) (take_none (drop low statements)) in
    omega (arith, same, none)
walk statements places step (suc m) low h steady sized =
    let x = get_or statements low Statement.Relaxable in
    let rest = take m (drop (low + 1) statements) in
    let cut : take (suc m) (drop low statements) ≡ x ∷ rest = at_drop_more (take (suc m)) statements low Statement.Relaxable (omega (arith, h)) in
    let at : slice_get statements low ≡ Some x = slice_get-get_or statements low Statement.Relaxable (omega (arith, h)) in
    rw cut (elim x as (λ y. slice_get statements low ≡ Some y → list_any is_relaxable (y ∷ rest) ≡ false → list_any is_unsized (y ∷ rest) ≡ false
    → places (low + suc m) % modulus ≡ (places low + sum_by statement_bytes (y ∷ rest)) % modulus) [
      | Statement.Sized n ↦ λ at steady sized.
          let more = walk statements places step m (low + 1) (omega (arith, h)) steady sized in
          let next : suc low ≡ low + 1 = omega arith in
          let sum = sum_by-cons statement_bytes (Statement.Sized n) rest in
          rw sum (step_on places low m n (sum_by statement_bytes rest) (subst (λ k. places k % modulus ≡ (places low + n) % modulus) next (step low n at)) more)
      | Statement.Relaxable ↦ λ at steady sized. cc
      | Statement.Unsized ↦ λ at steady sized. cc
    ] at (ap (list_any is_relaxable) (sym cut) ∙ steady) (ap (list_any is_unsized) (sym cut) ∙ sized))

-- If the size of statements is a number, there is no relaxable jump and no unknown size among them.
bytes_number : (statements : List Statement) (n : ℕ) → bytes_taken statements ≡ Worth.Number n
    → (list_any is_relaxable statements ≡ false) × (list_any is_unsized statements ≡ false) × (n ≡ sum_by statement_bytes statements % modulus)
bytes_number statements n is =
    elim (list_any is_relaxable statements) as (λ b. list_any is_relaxable statements ≡ b
    → (if b then Worth.Varies else if list_any is_unsized statements then Worth.Unknown else Worth.Number (sum_by statement_bytes statements % modulus)) ≡ Worth.Number n
    → (list_any is_relaxable statements ≡ false) × (list_any is_unsized statements ≡ false) × (n ≡ sum_by statement_bytes statements % modulus)) [
      | true ↦ λ _ bad. cc
      | false ↦ λ steady e. elim (list_any is_unsized statements) as (λ b. list_any is_unsized statements ≡ b
          → (if b then Worth.Unknown else Worth.Number (sum_by statement_bytes statements % modulus)) ≡ Worth.Number n
          → (list_any is_relaxable statements ≡ false) × (list_any is_unsized statements ≡ false) × (n ≡ sum_by statement_bytes statements % modulus)) [
            | true ↦ λ _ bad. cc
            | false ↦ λ sized f. (steady, sized, cc)
          ] refl e
    ] refl is

forth : (statements : List Statement) (places : ℕ → ℕ) → Step statements places → (low high n : ℕ) → low ≤ high → high ≤ length statements → bytes_taken (statements_between statements low high) ≡ Worth.Number n
    → places high % modulus ≡ (places low + n) % modulus
forth statements places step low high n h k is =
    let b = bytes_number (statements_between statements low high) n is in
    let w = walk statements places step (high - low) low (omega (arith, h, k)) b.0 b.1 in
    let same : places (low + (high - low)) ≡ places high = ap places (omega (arith, h)) in
    omega (arith, w, b.2, same)

below : (statements : List Statement) (n : ℕ) → bytes_taken statements ≡ Worth.Number n → n < modulus
below statements n is = let b = bytes_number statements n is in omega (arith, b.2)

backwards_number : (w : Worth) (n : ℕ) → backwards w ≡ Worth.Number n → (m : ℕ) × (w ≡ Worth.Number m) × (n ≡ (modulus - m) % modulus)
backwards_number (Worth.Number m) n is = (m, refl, cc)
backwards_number Worth.Unknown n is = cc
backwards_number Worth.Varies n is = cc

pub neither : (a b : Bool) → (a || b) ≡ false → (a ≡ false) × (b ≡ false)
neither false b e = (refl, e)
neither true b e = cc

pub one_distance : (statements : List Statement) (places : ℕ → ℕ) → Step statements places → (p q n : ℕ) → distance statements p q ≡ Worth.Number n
    → value places (Infix Binary.Subtract (Leaf (Atom.Ref p)) (Leaf (Atom.Ref q))) ≡ n
one_distance statements places step p q n is =
    elim (nat_lt (length statements) p || nat_lt (length statements) q) as (λ b. (nat_lt (length statements) p || nat_lt (length statements) q) ≡ b
    → (if b then Worth.Varies else if nat_le q p then bytes_taken (statements_between statements q p) else backwards (bytes_taken (statements_between statements p q))) ≡ Worth.Number n
    → value places (Infix Binary.Subtract (Leaf (Atom.Ref p)) (Leaf (Atom.Ref q))) ≡ n) [
      | true ↦ λ _ bad. cc
      | false ↦ λ inside e. elim (nat_le q p) as (λ b. nat_le q p ≡ b → (if b then bytes_taken (statements_between statements q p) else backwards (bytes_taken (statements_between statements p q))) ≡ Worth.Number n
          → value places (Infix Binary.Subtract (Leaf (Atom.Ref p)) (Leaf (Atom.Ref q))) ≡ n) [
            | true ↦ λ le f.
                let within : (nat_lt (length statements) p ≡ false) × (nat_lt (length statements) q ≡ false) = neither _ _ inside in
                let w = forth statements places step q p _ (leb-true q p le) (ltb-false (length statements) p within.0) f in
                omega (arith, w, below (statements_between statements q p) _ f)
            | false ↦ λ lt f.
                let within : (nat_lt (length statements) p ≡ false) × (nat_lt (length statements) q ≡ false) = neither _ _ inside in
                let b = backwards_number (bytes_taken (statements_between statements p q)) _ f in
                let less = leb-false q p lt in
                let w = forth statements places step p q b.0 (omega (arith, less)) (ltb-false (length statements) q within.1) b.1 in
                omega (arith, w, b.2, below (statements_between statements p q) _ b.1)
          ] refl e
    ] refl is
