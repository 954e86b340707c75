-- Items in postfix order make one expression.
use Rattle.std.proofs.Common.{◌≡◌, List, [], ◌∷◌, ◌++◌, Some, None, ℕ, ◌+◌, ◌<◌, length, drop, get_or, refl, sym, ap, ◌∙◌, append_assoc, append-nil}
use Rattle.std.proofs.lemmas.List.{at_drop_more}
use Rattle.asm_parse.specs.Types.{Item, Atom}
use Rattle.asm_parse.specs.Expression.{Expression, Leaf, Prefix, Infix, postfix, and_then}
use Rattle.asm_parse.specs.Values.Postfix.{put, run, spread, only, tree}

-- The items of an expression leave that expression.
pub run-postfix : {L : Type 0} (e : Expression L) (rest : List (Item L)) (before : List (Expression L)) → run (postfix e ++ rest) before ≡ run rest (e ∷ before)
run-postfix (Leaf l) rest before = refl
run-postfix (Prefix op a) rest before = rw append_assoc (run-postfix a (Item.Unary op ∷ rest) before)
run-postfix (Infix op a b) rest before =
    simp append_assoc (run-postfix a (postfix b ++ Item.Binary op ∷ rest) before ∙ run-postfix b (Item.Binary op ∷ rest) (a ∷ before))

pub put-spread : {L : Type 0} (item : Item L) (before now : List (Expression L)) → put item before ≡ Some now → spread now ≡ spread before ++ item ∷ []
put-spread (Item.Leaf l) before now e = let s : Leaf l ∷ before ≡ now = cc in ap spread (sym s)
put-spread (Item.Unary op) [] now e = cc
put-spread (Item.Unary op) (a ∷ before) now e =
    let s : Prefix op a ∷ before ≡ now = cc in
    ap spread (sym s) ∙ simp append_assoc
put-spread (Item.Binary op) [] now e = cc
put-spread (Item.Binary op) (b ∷ []) now e = cc
put-spread (Item.Binary op) (b ∷ a ∷ before) now e =
    let s : Infix op a b ∷ before ≡ now = cc in
    ap spread (sym s) ∙ simp append_assoc

-- The expressions that items leave have just these items.
pub run-spread : {L : Type 0} (items : List (Item L)) (before now : List (Expression L)) → run items before ≡ Some now → spread now ≡ spread before ++ items
run-spread [] before now e = let s : before ≡ now = cc in ap spread (sym s) ∙ sym (append-nil (spread before))
run-spread (item ∷ items) before now e =
    elim (put item before) as (λ p. put item before ≡ p → and_then p (λ middle. run items middle) ≡ Some now → spread now ≡ spread before ++ item ∷ items) [
      | None ↦ λ _ none. cc
      | Some middle ↦ λ was more. run-spread items middle now more ∙ ap (λ xs. xs ++ items) (put-spread item before middle was) ∙ append_assoc (spread before) (item ∷ []) items
    ] refl e

-- If items leave only one expression, they are its items,
pub run-one : {L : Type 0} (items : List (Item L)) (e : Expression L) → run items [] ≡ Some (e ∷ []) → postfix e ≡ items
run-one items e left = run-spread items [] (e ∷ []) left

-- and the items of an expression leave only that expression.
pub run-whole : {L : Type 0} (items : List (Item L)) (e : Expression L) → postfix e ≡ items → run items [] ≡ Some (e ∷ [])
run-whole items e spelled = ap (λ xs. run xs []) (sym spelled ∙ sym (append-nil (postfix e))) ∙ run-postfix e [] []

pub tree-postfix : (items : List (Item Atom)) (e : Expression Atom) → postfix e ≡ items → tree items ≡ e
tree-postfix items e spelled = ap (only (Atom.Number 0)) (run-whole items e spelled)

-- Items make at most one expression.
pub one_expression : {L : Type 0} (d e : Expression L) → postfix d ≡ postfix e → d ≡ e
one_expression d e same =
    let two : Some (d ∷ []) ≡ Some (e ∷ []) = sym (run-whole (postfix d) d refl) ∙ run-whole (postfix d) e (sym same) in
    cc

-- What one more item leaves, if all items leave some expressions in the end.
pub next : {L : Type 0} (items : List (Item L)) (k : ℕ) (d : Item L) (values left : List (Expression L)) → run items [] ≡ Some left → run (drop k items) values ≡ run items [] → k < length items
    → (now : List (Expression L)) × (put (get_or items k d) values ≡ Some now) × (run (drop (k + 1) items) now ≡ run items [])
next {L = L} items k d values left whole runs h =
    let step : and_then (put (get_or items k d) values) (λ now. run (drop (k + 1) items) now) ≡ Some left = sym (at_drop_more (λ is. run is values) items k d h) ∙ runs ∙ whole in
    elim (put (get_or items k d) values) as (λ p. put (get_or items k d) values ≡ p → and_then p (λ now. run (drop (k + 1) items) now) ≡ Some left
    → (now : List (Expression L)) × (put (get_or items k d) values ≡ Some now) × (run (drop (k + 1) items) now ≡ run items [])) [
      | None ↦ λ _ none. cc
      | Some now ↦ λ was more. (now, was, more ∙ sym whole)
    ] refl step
