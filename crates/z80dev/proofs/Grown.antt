-- The jumps that were written as a JR and grew are those that are long in every settled choice.
use Rattle.std.proofs.Common.{◌≡◌, ◌+◌, ◌⊎◌, ◌↔◌, ◌&&◌, ◌∙◌, if◌then◌else◌, inl, inr, refl, sym, subst, ap, ℕ, zero, suc, Bool, true, false, true≢false, List, [], ◌∷◌, Some, None, option_map, map, slice_get, Contains, arith}
use Rattle.std.proofs.lemmas.Bool.{and_parts}
use Rattle.std.specs.List.{cons_option, enumerate_from, filter_map}
use Rattle.relax.specs.Choice.{Choice, IsJump, IsSettled}
use Rattle.relax.specs.Growth.{after}
use Rattle.zmo_object.specs.Modules as object
use Rattle.zmo_object.specs.Modules.{Module, ModuleStatement}
use Rattle.zlink.specs.Program.Whole.{Placed, program}
use Rattle.zlink.specs.File.Objects.{grown_at, is_marked, placed_shape, sized_by}
use Rattle.zlink.specs.Linked.{IsOutput, Output}
use Rattle.z80dev.specs.Grown.{IsMarkedJump}

head : {X : Type 0} (x : X) (xs : List X) → Contains (x ∷ xs) x
head x xs = (0, omega arith, refl)

tail : {X : Type 0} (x z : X) (xs : List X) → Contains xs z → Contains (x ∷ xs) z
tail x z xs (k, below, is) = (suc k, omega (arith, below), is)

head_or_tail : {X : Type 0} (x z : X) (xs : List X) → Contains (x ∷ xs) z → (x ≡ z) ⊎ Contains xs z
head_or_tail x z xs (zero, below, is) = inl is
head_or_tail x z xs (suc k, below, is) = inr (k, omega (arith, below), is)

-- Statement k is a marked jump that is long in the choice. It is one of these statements, the first of which has number n.
record IsLong (c : Choice) (n : ℕ) (ps : List Placed) (k : ℕ) : Type 0 where
  at : ℕ
  placed : Placed
  number : k ≡ n + at
  there : slice_get ps at ≡ Some placed
  marked : is_marked placed.statement ≡ true
  long : c k ≡ true

first_long : (c : Choice) (n : ℕ) (p : Placed) (ps : List Placed) (k : ℕ) → n ≡ k → (is_marked p.statement && c n) ≡ true → IsLong c n (p ∷ ps) k
first_long c n p ps k same both =
    record { at = 0; placed = p; number = omega (arith, same); there = refl; marked = (and_parts _ _ both).0; long = subst (λ m. c m ≡ true) same (and_parts _ _ both).1 }

more_long : (c : Choice) (n : ℕ) (p : Placed) (ps : List Placed) (k : ℕ) → IsLong c (n + 1) ps k → IsLong c n (p ∷ ps) k
more_long c n p ps k is = record { at = suc is.at; placed = is.placed; number = omega (arith, is.number); there = is.there; marked = is.marked; long = is.long }

by_first : (c : Choice) (n : ℕ) (p : Placed) (ps : List Placed) (k : ℕ) (b : Bool) → (is_marked p.statement && c n) ≡ b → (Contains (filter_map (grown_at c) (enumerate_from (n + 1) ps)) k → IsLong c (n + 1) ps k)
    → Contains (cons_option (if b then Some n else None) (filter_map (grown_at c) (enumerate_from (n + 1) ps))) k → IsLong c n (p ∷ ps) k
by_first c n p ps k true is rest found = either (head_or_tail n k _ found) where
  either : (n ≡ k) ⊎ Contains (filter_map (grown_at c) (enumerate_from (n + 1) ps)) k → IsLong c n (p ∷ ps) k
  either (inl same) = first_long c n p ps k same is
  either (inr more) = more_long c n p ps k (rest more)
by_first c n p ps k false is rest found = more_long c n p ps k (rest found)

long_in : (c : Choice) (n : ℕ) (ps : List Placed) (k : ℕ) → Contains (filter_map (grown_at c) (enumerate_from n ps)) k → IsLong c n ps k
long_in c n [] k found = absurd (omega (arith, found.1))
long_in c n (p ∷ ps) k found = by_first c n p ps k (is_marked p.statement && c n) refl (long_in c (n + 1) ps k) found

both_true : (x y : Bool) → x ≡ true → y ≡ true → (x && y) ≡ true
both_true true y h k = k
both_true false y h k = absurd (true≢false (sym h))

found_first : (n k : ℕ) (rest : List ℕ) (b : Bool) → b ≡ true → n ≡ k → Contains (cons_option (if b then Some n else None) rest) k
found_first n k rest true is same = subst (Contains (n ∷ rest)) same (head n rest)
found_first n k rest false is same = absurd (true≢false (sym is))

found_more : (n k : ℕ) (rest : List ℕ) (b : Bool) → Contains rest k → Contains (cons_option (if b then Some n else None) rest) k
found_more n k rest true found = tail n k rest found
found_more n k rest false found = found

in_long : (c : Choice) (n : ℕ) (ps : List Placed) (k at : ℕ) (placed : Placed) → k ≡ n + at → slice_get ps at ≡ Some placed → is_marked placed.statement ≡ true → c k ≡ true
    → Contains (filter_map (grown_at c) (enumerate_from n ps)) k
in_long c n [] k at placed number there marked long = absurd (cc there)
in_long c n (p ∷ ps) k zero placed number there marked long =
    let same : n ≡ k = omega (arith, number) in
    let is : p ≡ placed = cc there in
    found_first n k _ (is_marked p.statement && c n) (both_true _ _ (subst (λ q. is_marked q.statement ≡ true) (sym is) marked) (subst (λ m. c m ≡ true) (sym same) long)) same
in_long c n (p ∷ ps) k (suc at) placed number there marked long =
    found_more n k _ (is_marked p.statement && c n) (in_long c (n + 1) ps k at placed (omega (arith, number)) there marked long)

-- a marked jump is a jump of the shape
sized_jump : (stands : ℕ → ℕ) (s : ModuleStatement) → is_marked s ≡ true → (t : ℕ) × (sized_by stands s ≡ sized_by stands (object.Jump true None t))
sized_jump stands (object.Jump marked condition to) is = (to, refl)
sized_jump stands (object.Bytes bytes holes) is = absurd (true≢false (sym is))
sized_jump stands (object.Short branch to) is = absurd (true≢false (sym is))
sized_jump stands (object.Space size fill) is = absurd (true≢false (sym is))

get_map : {X Y : Type 0} (f : X → Y) (xs : List X) (k : ℕ) (x : X) → slice_get xs k ≡ Some x → slice_get (map f xs) k ≡ Some (f x)
get_map f [] k x there = absurd (cc there)
get_map f (y ∷ ys) zero x there = ap (option_map f) there
get_map f (y ∷ ys) (suc k) x there = get_map f ys k x there

jump_at : (ps : List Placed) (k : ℕ) (is : IsMarkedJump ps k) → (t : ℕ) × IsJump (placed_shape ps) k t
jump_at ps k is =
    let j = sized_jump is.placed.stands is.placed.statement is.marked in
    (is.placed.stands j.0, get_map (λ p. sized_by p.stands p.statement) ps k is.placed is.there ∙ ap Some j.1)

pub grown_are_needed : (modules : List Module) (order : List ℕ) (o : Output) → IsOutput modules order o → (k : ℕ)
    → Contains o.grown k ↔ (IsMarkedJump (program modules) k × ((c : Choice) → IsSettled c (placed_shape (program modules)) → c k ≡ true))
grown_are_needed modules order o is k =
    let c = after order in
    let ps = program modules in (
      λ found.
          let l = long_in c 0 ps k (subst (λ xs. Contains xs k) is.grown found) in
          let at : l.at ≡ k = omega (arith, l.number) in
          let jump : IsMarkedJump ps k = record { placed = l.placed; there = subst (λ m. slice_get ps m ≡ Some l.placed) at l.there; marked = l.marked } in
          let j = jump_at ps k jump in
          (jump, (is.judged.needed k j.0 j.1).0 l.long),
      λ p.
          let j = jump_at ps k p.0 in
          let long = (is.judged.needed k j.0 j.1).1 p.1 in
          subst (λ xs. Contains xs k) (sym is.grown) (in_long c 0 ps k k p.0.placed (omega arith) p.0.there p.0.marked long),
    )
