-- The values of the expressions that items leave, on a stack.
use Rattle.std.proofs.Common.{◌≡◌, ◌≢◌, ◌+◌, ◌-◌, ◌≤◌, ◌<◌, ℕ, List, [], ◌∷◌, Some, length, take, drop, All, get_or, refl, sym, ap, subst, ◌∙◌, arith, get_or-set_other, get_or-set_same}
use Rattle.std.proofs.lemmas.List.{at_drop_all}
use Rattle.std.proofs.lemmas.List.Concat.{get_or-flat_map}
use Rattle.std.proofs.lemmas.List.Folds.{length-flat_map-take}
use Rattle.std.specs.List.{flat_map}
use Rattle.std.proofs.Math.ListN.{set}
use Rattle.asm_parse.specs.Types.{Unary, Binary, Item, Atom}
use Rattle.asm_parse.specs.Values.Arithmetic.{unary, binary}
use Rattle.asm_parse.specs.Expression.{Expression, Leaf, Prefix, Infix}
use Rattle.asm_parse.specs.Values.Postfix.{put, run, tree}
use Rattle.asm_parse.specs.Values.Items.{value, IsExpr, refs, refs_in}
use Rattle.asm_parse.specs.Private.Steps.{Stacked, arity}
use Rattle.asm_parse.proofs.Postfix.{run-whole, tree-postfix}

-- The first `read` items of an expression have been read.
pub record Valued (places : ℕ → ℕ) (items : List (Item Atom)) (stack : List ℕ) (read len : ℕ) : Type 0 where
  pub values : List (Expression Atom)
  pub runs : run (drop read items) values ≡ run items []
  pub stacked : Stacked places values stack len
  pub few : len ≤ read

-- A write above the used part of the stack does not change that part.
pub above : (places : ℕ → ℕ) (values : List (Expression Atom)) (stack : List ℕ) (len at x : ℕ) → len ≤ at → Stacked places values stack len → Stacked places values (set stack at x) len
above places [] stack len at x h s = s
above places (e ∷ before) stack len at x h s =
    let below : s.0 ≢ at = omega (arith, s.1) in
    (s.0, s.1, get_or-set_other stack at s.0 x 0 below ∙ s.2, above places before stack s.0 at x (omega (arith, s.1)) s.3)

pub leaf_stacked : (places : ℕ → ℕ) (a : Atom) (values now : List (Expression Atom)) (stack : List ℕ) (len x : ℕ) → len < length stack → x ≡ value places (Leaf a)
    → Stacked places values stack len → put (Item.Leaf a) values ≡ Some now → Stacked places now (set stack len x) (len + 1)
leaf_stacked places a values now stack len x h e s p =
    let is : Leaf a ∷ values ≡ now = cc in
    subst (λ vs. Stacked places vs (set stack len x) (len + 1)) is
    (len, refl, get_or-set_same stack len x 0 h ∙ e, above places values stack len len x (omega arith) s)

pub unary_stacked : (places : ℕ → ℕ) (op : Unary) (values now : List (Expression Atom)) (stack : List ℕ) (len x : ℕ) → len ≤ length stack → x ≡ unary op (get_or stack (len - 1) 0)
    → Stacked places values stack len → put (Item.Unary op) values ≡ Some now → Stacked places now (set stack (len - 1) x) len
unary_stacked places op [] now stack len x h e s p = cc
unary_stacked places op (a ∷ before) now stack len x h e s p =
    let is : Prefix op a ∷ before ≡ now = cc in
    let same : len - 1 ≡ s.0 = omega (arith, s.1) in
    let read : x ≡ unary op (value places a) = e ∙ ap (λ k. unary op (get_or stack k 0)) same ∙ ap (unary op) s.2 in
    subst (λ vs. Stacked places vs (set stack (len - 1) x) len) is (
      len - 1,
      omega (arith, s.1),
      get_or-set_same stack (len - 1) x 0 (omega (arith, s.1)) ∙ read,
      above places before stack (len - 1) (len - 1) x (omega arith) (subst (Stacked places before stack) (sym same) s.3),
    )

pub binary_stacked : (places : ℕ → ℕ) (op : Binary) (values now : List (Expression Atom)) (stack : List ℕ) (len x : ℕ) → len ≤ length stack
    → x ≡ binary op (get_or stack (len - 2) 0) (get_or stack (len - 1) 0)
    → Stacked places values stack len → put (Item.Binary op) values ≡ Some now → Stacked places now (set stack (len - 2) x) (len - 1)
binary_stacked places op [] now stack len x h e s p = cc
binary_stacked places op (b ∷ []) now stack len x h e s p = cc
binary_stacked places op (b ∷ a ∷ before) now stack len x h e s p =
    let is : Infix op a b ∷ before ≡ now = cc in
    let t = s.3 in
    let last : len - 1 ≡ s.0 = omega (arith, s.1) in
    let second : len - 2 ≡ t.0 = omega (arith, s.1, t.1) in
    let read : x ≡ binary op (value places a) (value places b) =
    e ∙ ap (λ k. binary op (get_or stack k 0) (get_or stack (len - 1) 0)) second ∙ ap (λ k. binary op (get_or stack t.0 0) (get_or stack k 0)) last
    ∙ ap (λ v. binary op v (get_or stack s.0 0)) t.2 ∙ ap (λ v. binary op (value places a) v) s.2 in
    subst (λ vs. Stacked places vs (set stack (len - 2) x) (len - 1)) is (
      len - 2,
      omega (arith, s.1, t.1),
      get_or-set_same stack (len - 2) x 0 (omega (arith, s.1, t.1)) ∙ read,
      above places before stack (len - 2) (len - 2) x (omega arith) (subst (Stacked places before stack) (sym second) t.3),
    )

-- The stack has the operands that an item takes.
pub enough : (places : ℕ → ℕ) (item : Item Atom) (values now : List (Expression Atom)) (stack : List ℕ) (len : ℕ) → Stacked places values stack len → put item values ≡ Some now → arity item ≤ len
enough places (Item.Leaf a) values now stack len s p = omega arith
enough places (Item.Unary op) [] now stack len s p = cc
enough places (Item.Unary op) (a ∷ before) now stack len s p = omega (arith, s.1)
enough places (Item.Binary op) [] now stack len s p = cc
enough places (Item.Binary op) (b ∷ []) now stack len s p = cc
enough places (Item.Binary op) (b ∷ a ∷ before) now stack len s p = let t = s.3 in omega (arith, s.1, t.1)

pub start : (places : ℕ → ℕ) (items : List (Item Atom)) (stack : List ℕ) → Valued places items stack 0 0
start places items stack = record { values = []; runs = refl; stacked = refl; few = omega arith }

-- At the end the first number of the stack is the value of the whole.
pub end : (places : ℕ → ℕ) (items : List (Item Atom)) (stack : List ℕ) (read len : ℕ) → IsExpr items → length items ≤ read → Valued places items stack read len → get_or stack 0 0 ≡ value places (tree items)
end places items stack read len expr h v =
    let all : Some v.values ≡ Some (expr.tree ∷ []) = sym (at_drop_all (λ is. run is v.values) items read h) ∙ v.runs ∙ run-whole items expr.tree expr.spelled in
    let one : v.values ≡ expr.tree ∷ [] = cc in
    let s = subst (λ vs. Stacked places vs stack len) one v.stacked in
    ap (λ k. get_or stack k 0) (sym s.3) ∙ s.2 ∙ ap (value places) (sym (tree-postfix items expr.tree expr.spelled))

-- What holds for all refs holds for those in one item.
pub refs_at : (P : ℕ → Type 0) (items : List (Item Atom)) (k : ℕ) (d : Item Atom) → k < length items → All P (refs items) → All P (refs_in (get_or items k d))
refs_at P items k d h all = λ j e within.
    subst P (get_or-flat_map refs_in items k j d e h within)
    (all (length (flat_map refs_in (take k items)) + j) e (omega (arith, length-flat_map-take refs_in items k d h)))
