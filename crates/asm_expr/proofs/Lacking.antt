-- An expression with a name that stands for nothing has no value.
use Rattle.std.proofs.Common.{◌≡◌, ◌∙◌, ◌⊎◌, ◌&&◌, inl, inr, sym, ap, refl, ℕ, Bool, true, false, List, [], ◌∷◌, ◌++◌, Option, Some, None, Ok}
use Rattle.std.specs.Prelude.{is_some, if◌then◌else◌, length, nat_lt}
use Rattle.std.specs.List.{list_all}
use Rattle.std.specs.Option.{option_map}
use Rattle.std.proofs.lemmas.List.Folds.{list_all-append}
use Rattle.asm_expr.specs.Types.{Item, Atom, Binary, ExprFault, Meaning, Settled, Unknown, Worth}
use Rattle.asm_expr.specs.declared.part.Part.{Part}
use Rattle.asm_expr.specs.declared.single.Single.{Single}
use Rattle.asm_parse.specs.Values.Arithmetic.{unary, binary}
use Rattle.asm_parse.specs.Expression.{Expression, Leaf, Prefix, Infix, postfix, and_then}
use Rattle.asm_parse.specs.Source.{Operand, Number, Name, Here}
use Rattle.asm_expr.specs.Names.{Table, found}
use Rattle.asm_expr.specs.Distances.{some_distance}
use Rattle.asm_expr.specs.Settling.{both, difference, distance_of, fault, is_known, item_known, items_known, leaf_or, meant, or_else, reduced, replaced, settled, settled_as, single, through, unknown_of, unless_fault, worth, worth_unknown}

-- some part of the expression has no value
abbrev Lacks : Expression Part → Type 0
Lacks (Leaf (Part.Unknown what)) = Unit {0}
Lacks (Leaf (Part.Number n)) = ⊥
Lacks (Leaf (Part.Ref r)) = ⊥
Lacks (Prefix op a) = Lacks a
Lacks (Infix op a b) = Lacks a ⊎ Lacks b

abbrev IsNumber : Worth → Type 0
IsNumber (Worth.Number n) = Unit {0}
IsNumber Worth.Unknown = ⊥
IsNumber Worth.Varies = ⊥

unknown_worth : (what : Unknown) → IsNumber (worth_unknown what) → ⊥
unknown_worth Unknown.Anything is = is
unknown_worth Unknown.Number is = is
unknown_worth Unknown.Varies is = is
unknown_worth Unknown.VariesInByte is = is

through_number : (f : ℕ → ℕ) (w : Worth) → IsNumber (through f w) → IsNumber w
through_number f (Worth.Number n) is = tt
through_number f Worth.Unknown is = is
through_number f Worth.Varies is = is

both_numbers : (f : ℕ → ℕ → ℕ) (a b : Worth) → IsNumber (both f a b) → IsNumber a × IsNumber b
both_numbers f (Worth.Number n) b is = (tt, through_number (f n) b is)
both_numbers f Worth.Unknown (Worth.Number n) is = absurd is
both_numbers f Worth.Unknown Worth.Unknown is = absurd is
both_numbers f Worth.Unknown Worth.Varies is = absurd is
both_numbers f Worth.Varies b is = absurd is

either_number : (d w : Worth) → IsNumber (or_else d w) → IsNumber d ⊎ IsNumber w
either_number (Worth.Number n) w is = inl tt
either_number Worth.Unknown w is = absurd is
either_number Worth.Varies w is = inr is

abbrev IsPlace : Single → Type 0
IsPlace (Single.Place p) = Unit {0}
IsPlace _ = ⊥

some_far : (t : Table) (p : ℕ) → IsNumber (some_distance t.statements p) → ⊥
some_far t p is = apart (nat_lt (length t.statements) p) is
  where
    apart : (b : Bool) → IsNumber (if b then Worth.Varies else Worth.Unknown) → ⊥
    apart true is = is
    apart false is = is

far_places : (t : Table) (x y : Single) → IsNumber (distance_of t x y) → IsPlace x × IsPlace y
far_places t (Single.Place p) (Single.Place q) is = (tt, tt)
far_places t (Single.Place p) Single.Anything is = absurd (some_far t p is)
far_places t (Single.Place p) Single.Other is = absurd is
far_places t Single.Anything (Single.Place q) is = absurd (some_far t q is)
far_places t Single.Anything Single.Anything is = absurd is
far_places t Single.Anything Single.Other is = absurd is
far_places t Single.Other (Single.Place q) is = absurd is
far_places t Single.Other Single.Anything is = absurd is
far_places t Single.Other Single.Other is = absurd is

place_lacks : (e : Expression Part) → IsPlace (single e) → Lacks e → ⊥
place_lacks (Leaf (Part.Ref r)) is lacks = lacks
place_lacks (Leaf (Part.Number n)) is lacks = is
place_lacks (Leaf (Part.Unknown Unknown.Anything)) is lacks = is
place_lacks (Leaf (Part.Unknown Unknown.Number)) is lacks = is
place_lacks (Leaf (Part.Unknown Unknown.Varies)) is lacks = is
place_lacks (Leaf (Part.Unknown Unknown.VariesInByte)) is lacks = is
place_lacks (Prefix op a) is lacks = is
place_lacks (Infix op a b) is lacks = is

differ_places : (t : Table) (op : Binary) (a b : Expression Part) → IsNumber (difference t op a b) → IsPlace (single a) × IsPlace (single b)
differ_places t Binary.Subtract a b is = far_places t (single a) (single b) is
differ_places t _ a b is = absurd is

no_number : (t : Table) (e : Expression Part) → Lacks e → IsNumber (worth t e) → ⊥
no_number t (Leaf (Part.Unknown what)) lacks is = unknown_worth what is
no_number t (Leaf (Part.Number n)) lacks is = lacks
no_number t (Leaf (Part.Ref r)) lacks is = lacks
no_number t (Prefix op a) lacks is = no_number t a lacks (through_number (unary op) (worth t a) is)
no_number t (Infix op a b) lacks is = by (either_number (difference t op a b) (both (binary op) (worth t a) (worth t b)) is) lacks (no_number t a) (no_number t b)
  where
    by : IsNumber (difference t op a b) ⊎ IsNumber (both (binary op) (worth t a) (worth t b)) → Lacks a ⊎ Lacks b → (Lacks a → IsNumber (worth t a) → ⊥) → (Lacks b → IsNumber (worth t b) → ⊥) → ⊥
    by (inl far) (inl left) first second = place_lacks a (differ_places t op a b far).0 left
    by (inl far) (inr right) first second = place_lacks b (differ_places t op a b far).1 right
    by (inr num) (inl left) first second = first left (both_numbers (binary op) (worth t a) (worth t b) num).0
    by (inr num) (inr right) first second = second right (both_numbers (binary op) (worth t a) (worth t b) num).1

leaf_lacks : (other : Expression Part) (w : Worth) → (IsNumber w → ⊥) → Lacks other → Lacks (leaf_or other w)
leaf_lacks other (Worth.Number n) no_way lacks = absurd (no_way tt)
leaf_lacks other Worth.Unknown no_way lacks = tt
leaf_lacks other Worth.Varies no_way lacks = lacks

reduced_lacks : (t : Table) (e : Expression Part) → Lacks e → Lacks (reduced t e)
reduced_lacks t (Leaf part) lacks = lacks
reduced_lacks t (Prefix op a) lacks = leaf_lacks (Prefix op (reduced t a)) (worth t (Prefix op a)) (no_number t (Prefix op a) lacks) (reduced_lacks t a lacks)
reduced_lacks t (Infix op a b) (inl left) = leaf_lacks (Infix op (reduced t a) (reduced t b)) (worth t (Infix op a b)) (no_number t (Infix op a b) (inl left)) (inl (reduced_lacks t a left))
reduced_lacks t (Infix op a b) (inr right) = leaf_lacks (Infix op (reduced t a) (reduced t b)) (worth t (Infix op a b)) (no_number t (Infix op a b) (inr right)) (inr (reduced_lacks t b right))

map_none : (o : Option (List (Item Atom))) (item : Item Atom) → option_map (λ items. item ∷ items) o ≡ None → o ≡ None
map_none None item is = refl
map_none (Some items) item is = absurd cc

lacking_first : (xs ys : List (Item Part)) → items_known xs ≡ None → items_known (xs ++ ys) ≡ None
lacking_first [] ys is = absurd cc
lacking_first (x ∷ xs) ys is =
    elim (item_known x) as (λ o. and_then o (λ item. option_map (λ items. item ∷ items) (items_known xs)) ≡ None → and_then o (λ item. option_map (λ items. item ∷ items) (items_known (xs ++ ys))) ≡ None) [
      | None ↦ λ none. refl
      | Some item ↦ λ none. ap (option_map (λ items. item ∷ items)) (lacking_first xs ys (map_none (items_known xs) item none))
    ] is

lacking_then : (xs ys : List (Item Part)) → items_known ys ≡ None → items_known (xs ++ ys) ≡ None
lacking_then [] ys is = is
lacking_then (x ∷ xs) ys is =
    elim (item_known x) as (λ o. and_then o (λ item. option_map (λ items. item ∷ items) (items_known (xs ++ ys))) ≡ None) [
      | None ↦ refl
      | Some item ↦ ap (option_map (λ items. item ∷ items)) (lacking_then xs ys is)
    ]

lacking_items : (e : Expression Part) → Lacks e → items_known (postfix e) ≡ None
lacking_items (Leaf (Part.Unknown what)) lacks = refl
lacking_items (Leaf (Part.Number n)) lacks = absurd lacks
lacking_items (Leaf (Part.Ref r)) lacks = absurd lacks
lacking_items (Prefix op a) lacks = lacking_first (postfix a) (Item.Unary op ∷ []) (lacking_items a lacks)
lacking_items (Infix op a b) (inl left) = lacking_first (postfix a ++ postfix b) (Item.Binary op ∷ []) (lacking_first (postfix a) (postfix b) (lacking_items a left))
lacking_items (Infix op a b) (inr right) = lacking_first (postfix a ++ postfix b) (Item.Binary op ∷ []) (lacking_then (postfix a) (postfix b) (lacking_items b right))

-- A name that stands for nothing is such a part.

name_lacks : (o : Option Meaning) → is_some o ≡ false → Lacks (meant o)
name_lacks None is = tt
name_lacks (Some what) is = absurd cc

and_false : (a b : Bool) → (a && b) ≡ false → (a ≡ false) ⊎ (b ≡ false)
and_false false b is = inl refl
and_false true b is = inr is

last_known : (a : Bool) → (a && true) ≡ false → a ≡ false
last_known true is = is
last_known false is = refl

names_lack : (t : Table) (e : Expression Operand) → list_all (is_known t) (postfix e) ≡ false → Lacks (replaced t e)
names_lack t (Leaf (Number n)) is = absurd cc
names_lack t (Leaf Here) is = absurd cc
names_lack t (Leaf (Name name)) is = name_lacks (found t name) (last_known (is_some (found t name)) is)
names_lack t (Prefix op a) is = names_lack t a (last_known (list_all (is_known t) (postfix a)) (sym (list_all-append (is_known t) (postfix a) (Item.Unary op ∷ [])) ∙ is))
names_lack t (Infix op a b) is =
    sides (and_false (list_all (is_known t) (postfix a)) (list_all (is_known t) (postfix b))
    (sym (list_all-append (is_known t) (postfix a) (postfix b)) ∙ last_known (list_all (is_known t) (postfix a ++ postfix b)) (sym (list_all-append (is_known t) (postfix a ++ postfix b) (Item.Binary op ∷ [])) ∙ is)))
    (names_lack t a) (names_lack t b)
  where
    sides : (list_all (is_known t) (postfix a) ≡ false) ⊎ (list_all (is_known t) (postfix b) ≡ false) → (list_all (is_known t) (postfix a) ≡ false → Lacks (replaced t a))
        → (list_all (is_known t) (postfix b) ≡ false → Lacks (replaced t b)) → Lacks (replaced t a) ⊎ Lacks (replaced t b)
    sides (inl left) first second = inl (first left)
    sides (inr right) first second = inr (second right)

pub lacking_settled : (t : Table) (e : Expression Operand) (items : List (Item Atom)) → list_all (is_known t) (postfix e) ≡ false → settled t e ≡ Ok (Settled.Known items) → ⊥
lacking_settled t e items is known =
    refused (fault t e) (items_known (postfix (reduced t (replaced t e)))) (unknown_of (reduced t (replaced t e))) (lacking_items (reduced t (replaced t e)) (reduced_lacks t (replaced t e) (names_lack t e is))) known
  where
    refused : (f : Option ExprFault) (o : Option (List (Item Atom))) (what : Unknown) → o ≡ None → unless_fault f (settled_as o what) ≡ Ok (Settled.Known items) → ⊥
    refused (Some why) o what none is = cc
    refused None None what none is = cc
    refused None (Some other) what none is = cc
