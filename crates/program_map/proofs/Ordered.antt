-- The long jumps of a map are the members of the order of the certificate.
use Rattle.std.proofs.Common.{◌≡◌, ◌∙◌, ◌+◌, ◌-◌, ◌≤◌, ◌<◌, ◌⊎◌, inl, inr, ℕ, zero, suc, Bool, true, false, cond, List, [], ◌∷◌, ◌++◌, Option, Some, None, drop, length, map, refl, ap, ap₂, sym, subst, arith, get_or, slice_index, take, add-one}
use Rattle.std.specs.Prelude.{◌==◌, ◌&&◌, ◌||◌, count_by, slice_get}
use Rattle.std.specs.List.{enumerate_from, list_any, sum_by}
use Rattle.std.proofs.lemmas.Bool.Decides.{nat_tests}
use Rattle.std.proofs.lemmas.List.{length-take-le, take_all, take_more}
use Rattle.relax.specs.declared.shape.Statement.{Statement}
use Rattle.relax.specs.declared.shape.Statement.TheVariants as sized
use Rattle.relax.specs.Choice.{Choice, IsJump}
use Rattle.relax.specs.Growth.{IsForcing, Misses, after}
use Rattle.program_map.specs.Sums.{is_sized_jump}
use Rattle.program_map.proofs.Counting.{count_cons}

-- the relaxable jumps from one statement on that are long
abbrev pub longs : Choice → ℕ → List Statement → ℕ
longs c first shape = count_by (λ (p : ℕ × Statement). is_sized_jump p.1 && c p.0) (enumerate_from first shape)

pub longs_cons : (c : Choice) (first : ℕ) (s : Statement) (shape : List Statement) → longs c first (s ∷ shape) ≡ cond (is_sized_jump s && c first) 1 0 + longs c (first + 1) shape
longs_cons c first s shape = count_cons (λ (p : ℕ × Statement). is_sized_jump p.1 && c p.0) (first, s) (enumerate_from (first + 1) shape)

-- choices that agree from one statement on have the same long jumps
same_longs : (c d : Choice) (first : ℕ) (shape : List Statement) → ((k : ℕ) → first ≤ k → c k ≡ d k) → longs c first shape ≡ longs d first shape
same_longs c d first [] same = refl
same_longs c d first (s ∷ shape) same =
    longs_cons c first s shape
    ∙ ap₂ (λ b n. cond (is_sized_jump s && b) 1 0 + n) (same first (omega arith)) (same_longs c d (first + 1) shape (λ k h. same k (omega arith)))
    ∙ sym (longs_cons d first s shape)

no_long : (first : ℕ) (shape : List Statement) → longs (λ k. false) first shape ≡ 0
no_long first [] = refl
no_long first (s ∷ shape) = longs_cons (λ k. false) first s shape ∙ (let rest = no_long (first + 1) shape in none (is_sized_jump s) (longs (λ k. false) (first + 1) shape) rest)
  where
    none : (b : Bool) (n : ℕ) → n ≡ 0 → cond (b && false) 1 0 + n ≡ 0
    none true n e = omega arith
    none false n e = omega arith

-- one jump more is long
one_longer : (c d : Choice) (first j : ℕ) (shape : List Statement) (t : ℕ) → first ≤ j → slice_get shape (j - first) ≡ Some (sized.Jump t) → c j ≡ false → d j ≡ true → ((k : ℕ) → (k ≡ j → ⊥) → d k ≡ c k)
    → longs d first shape ≡ longs c first shape + 1
one_longer c d first j [] t low at short long same = absurd cc
one_longer c d first j (s ∷ shape) t low at short long same =
    go (at_or_after first j low) (λ (lt : first < j). let further : j - first ≡ suc (j - (first + 1)) = omega arith in
    one_longer c d (first + 1) j shape t (omega arith) (subst (λ n. slice_get (s ∷ shape) n ≡ Some (sized.Jump t)) further at) short long same)
  where
    at_or_after : (a b : ℕ) → a ≤ b → (a ≡ b) ⊎ (a < b)
    at_or_after a b h = grind arith

    go : (first ≡ j) ⊎ (first < j) → (first < j → longs d (first + 1) shape ≡ longs c (first + 1) shape + 1) → longs d first (s ∷ shape) ≡ longs c first (s ∷ shape) + 1
    go (inl e) more =
        let zero_in : j - first ≡ 0 = omega arith in
        let own : s ≡ sized.Jump t = (let h = subst (λ n. slice_get (s ∷ shape) n ≡ Some (sized.Jump t)) zero_in at in cc) in
        let jump : is_sized_jump s ≡ true = ap is_sized_jump own in
        let rest = same_longs d c (first + 1) shape (λ k h. same k (λ is. omega arith)) in
        let d_first : d first ≡ true = ap d e ∙ long in
        let c_first : c first ≡ false = ap c e ∙ short in
        let d_is : longs d first (s ∷ shape) ≡ 1 + longs d (first + 1) shape = longs_cons d first s shape ∙ ap₂ (λ a b. cond (a && b) 1 0 + longs d (first + 1) shape) jump d_first in
        let c_is : longs c first (s ∷ shape) ≡ 0 + longs c (first + 1) shape = longs_cons c first s shape ∙ ap₂ (λ a b. cond (a && b) 1 0 + longs c (first + 1) shape) jump c_first in
        omega arith
    go (inr lt) more =
        let rest = more lt in
        let here : d first ≡ c first = same first (λ is. omega arith) in
        let d_is : longs d first (s ∷ shape) ≡ cond (is_sized_jump s && c first) 1 0 + longs d (first + 1) shape = longs_cons d first s shape ∙ ap (λ b. cond (is_sized_jump s && b) 1 0 + longs d (first + 1) shape) here in
        let c_is = longs_cons c first s shape in
        omega arith

-- the choice after one member more
member_more : (order : List ℕ) (i : ℕ) → i < length order → (k : ℕ) → after (take (i + 1) order) k ≡ after (take i order) k || (slice_index order i == k)
member_more order i h k = ap (list_any (λ j. j == k)) (take_more order i 0 h) ∙ any_push (take i order) (slice_index order i)
  where
    any_push : (xs : List ℕ) (x : ℕ) → list_any (λ j. j == k) (xs ++ x ∷ []) ≡ list_any (λ j. j == k) xs || (x == k)
    any_push [] x = either (x == k)
      where
        either : (b : Bool) → b || false ≡ false || b
        either true = refl
        either false = refl
    any_push (y ∷ xs) x = ap (λ b. (y == k) || b) (any_push xs x) ∙ assoc (y == k) (list_any (λ j. j == k) xs) (x == k)
      where
        assoc : (a b e : Bool) → a || (b || e) ≡ (a || b) || e
        assoc true b e = refl
        assoc false b e = refl

member_itself : (order : List ℕ) (i : ℕ) → i < length order → after (take (i + 1) order) (slice_index order i) ≡ true
member_itself order i h = member_more order i h (slice_index order i) ∙ (let same : (slice_index order i == slice_index order i) ≡ true = grind (arith, nat_tests) in is_true (after (take i order) (slice_index order i)) _ same)
  where
    is_true : (a b : Bool) → b ≡ true → a || b ≡ true
    is_true true b e = refl
    is_true false b e = e

member_other : (order : List ℕ) (i : ℕ) → i < length order → (k : ℕ) → (k ≡ slice_index order i → ⊥) → after (take (i + 1) order) k ≡ after (take i order) k
member_other order i h k other = member_more order i h k ∙ (let apart : (slice_index order i == k) ≡ false = differs (slice_index order i) k (λ e. other (sym e)) in is_same (after (take i order) k) _ apart)
  where
    differs : (a b : ℕ) → (a ≡ b → ⊥) → (a == b) ≡ false
    differs a b h = grind (arith, nat_tests)

    is_same : (a b : Bool) → b ≡ false → a || b ≡ a
    is_same true b e = refl
    is_same false b e = e

longs_upto : (shape : List Statement) (order : List ℕ) → IsForcing shape order → (i : ℕ) → i ≤ length order → longs (after (take i order)) 0 shape ≡ i
longs_upto shape order forcing zero h = no_long 0 shape
longs_upto shape order forcing (suc i) h =
    let before = longs_upto shape order forcing i (omega arith) in
    let lt : i < length order = omega arith in
    let miss = forcing i lt in
    let j : ℕ = slice_index order i in
    let at : slice_get shape (j - 0) ≡ Some (sized.Jump miss.target) = subst (λ n. slice_get shape n ≡ Some (sized.Jump miss.target)) (omega arith) miss.jump in
    let more = one_longer (after (take i order)) (after (take (i + 1) order)) 0 j shape miss.target (omega arith) at miss.short (member_itself order i lt) (member_other order i lt) in
    rw (← add-one) (more ∙ ap (λ n. n + 1) before)

-- the long jumps of a choice after a forcing order are its members
pub longs_are : (shape : List Statement) (order : List ℕ) → IsForcing shape order → longs (after order) 0 shape ≡ length order
longs_are shape order forcing = subst (λ os. longs (after os) 0 shape ≡ length order) (take_all (length order) order (omega arith)) (longs_upto shape order forcing (length order) (omega arith))
