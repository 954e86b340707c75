-- The items of several expressions, one after the other.
use Rattle.std.proofs.Common.{◌≡◌, ◌≤◌, ℕ, ◌-◌, List, [], ◌∷◌, ◌++◌, Option, Some, None, Ok, length, take, get_or, true, refl, sym, ap, subst, ◌∙◌, arith, append_assoc, length-append}
use Rattle.std.proofs.Math.Seq.{take-append_seam}
use Rattle.std.proofs.lemmas.List.{get_or-take, get_or_default, length-take-le}
use Rattle.asm_expr.specs.Types.{Unary, Binary, Item, ExprFault, Unknown, Worth}
use Rattle.asm_expr.specs.declared.part.Part.{Part}
use Rattle.asm_expr.specs.declared.single.Single.{Single}
use Rattle.asm_parse.specs.Values.Arithmetic.{binary}
use Rattle.asm_parse.specs.Expression.{Expression, Leaf, Prefix, Infix, postfix}
use Rattle.asm_parse.specs.Values.Postfix.{spread}
use Rattle.asm_expr.specs.Names.{Table}
use Rattle.asm_expr.specs.Settling.{distance_of, or_else, both, leaf_or}
use Rattle.asm_expr.specs.Private.Cells.{EndsInLeaf, is_leaf}
use Rattle.asm_expr.specs.Private.Folding.{root, worth_of, single_of, leaf_of, folded_unary, folded_binary, fold_one, prefixed, joined, Folds}

-- the items before the last one
pub front : Expression Part → List (Item Part)
front (Leaf part) = []
front (Prefix op a) = postfix a
front (Infix op a b) = postfix a ++ postfix b

pub front_root : (e : Expression Part) → postfix e ≡ front e ++ root e ∷ []
unfolding front
front_root (Leaf part) = refl
front_root (Prefix op a) = refl
front_root (Infix op a b) = refl

get_or-middle : (xs : List (Item Part)) (x : Item Part) (ys : List (Item Part)) (d : Item Part) → get_or (xs ++ x ∷ ys) (length xs) d ≡ x
get_or-middle [] x ys d = refl
get_or-middle (y ∷ xs) x ys d = get_or-middle xs x ys d

-- The last item of all is that of the last expression.
pub last_item : (a : Expression Part) (before : List (Expression Part)) (d : Item Part) → get_or (spread (a ∷ before)) (length (spread (a ∷ before)) - 1) d ≡ root a
last_item a before d =
    let whole : spread (a ∷ before) ≡ (spread before ++ front a) ++ root a ∷ [] = ap (λ xs. spread before ++ xs) (front_root a) ∙ sym (append_assoc (spread before) (front a) (root a ∷ [])) in
    let len : length (spread (a ∷ before)) - 1 ≡ length (spread before ++ front a) = omega (arith, ap length whole, length-append (spread before ++ front a) (root a ∷ [])) in
    ap (λ k. get_or (spread (a ∷ before)) k d) len ∙ ap (λ xs. get_or xs (length (spread before ++ front a)) d) whole ∙ get_or-middle (spread before ++ front a) (root a) [] d

-- If the last expression is a leaf, the item before it is the last one of the expression before it.
second_item : (part : Part) (a : Expression Part) (before : List (Expression Part)) (d : Item Part)
    → get_or (spread (Leaf part ∷ a ∷ before)) (length (spread (Leaf part ∷ a ∷ before)) - 2) d ≡ root a
second_item part a before d =
    let rest = Item.Leaf part ∷ [] in
    let whole : spread (Leaf part ∷ a ∷ before) ≡ (spread before ++ front a) ++ (root a ∷ rest) =
    ap (λ xs. (spread before ++ xs) ++ rest) (front_root a) ∙ simp append_assoc in
    let len : length (spread (Leaf part ∷ a ∷ before)) - 2 ≡ length (spread before ++ front a) = omega (arith, ap length whole, length-append (spread before ++ front a) (root a ∷ rest)) in
    ap (λ k. get_or (spread (Leaf part ∷ a ∷ before)) k d) len ∙ ap (λ xs. get_or xs (length (spread before ++ front a)) d) whole ∙ get_or-middle (spread before ++ front a) (root a) rest d

take-front : (xs ys : List (Item Part)) (n : ℕ) → n ≡ length xs → take n (xs ++ ys) ≡ xs
take-front xs ys n e = ap (λ k. take k (xs ++ ys)) e ∙ take-append_seam xs ys

-- what a fixed part becomes
leaf_some : (other : Expression Part) (w : Worth) (p : Part) → leaf_of w ≡ Some p → leaf_or other w ≡ Leaf p
leaf_some other (Worth.Number n) p is = let same : Part.Number n ≡ p = cc in ap Leaf same
leaf_some other Worth.Unknown p is = let same : Part.Unknown Unknown.Number ≡ p = cc in ap Leaf same
leaf_some other Worth.Varies p is = cc

leaf_none : (other : Expression Part) (w : Worth) → leaf_of w ≡ None → leaf_or other w ≡ other
leaf_none other (Worth.Number n) is = cc
leaf_none other Worth.Unknown is = cc
leaf_none other Worth.Varies is = refl

-- The operand of a prefix operator whose result is fixed is a leaf.
unary_leaf : (op : Unary) (a : Expression Part) (p : Part) → leaf_of (folded_unary op (root a)) ≡ Some p → (q : Part) × (a ≡ Leaf q)
unary_leaf op (Leaf q) p is = (q, refl)
unary_leaf op (Prefix u a) p is = cc
unary_leaf op (Infix o a b) p is = cc

pub unary_number : (op : Unary) (a : Expression Part) (before : List (Expression Part)) (old new : List (Item Part)) (x : Item Part) (n : ℕ) (p : Part)
    → old ≡ spread (a ∷ before) → n ≡ length old → x ≡ get_or old (n - 1) x → leaf_of (folded_unary op x) ≡ Some p → new ≡ take (n - 1) old ++ Item.Leaf p ∷ []
    → new ≡ spread (prefixed op a ∷ before)
unary_number op a before old new x n p is len read leaf made =
    let same : x ≡ root a = read ∙ ap (λ k. get_or old (k - 1) x) len ∙ ap (λ xs. get_or xs (length xs - 1) x) is ∙ last_item a before x in
    let leaf : leaf_of (folded_unary op (root a)) ≡ Some p = ap (λ y. leaf_of (folded_unary op y)) (sym same) ∙ leaf in
    let q = unary_leaf op a p leaf in
    let whole : old ≡ spread before ++ Item.Leaf q.0 ∷ [] = is ∙ ap (λ e. spread before ++ postfix e) q.1 in
    let short : n - 1 ≡ length (spread before) = omega (arith, len, ap length whole, length-append (spread before) (Item.Leaf q.0 ∷ [])) in
    made ∙ ap (λ xs. take (n - 1) xs ++ Item.Leaf p ∷ []) whole
    ∙ ap (λ xs. xs ++ Item.Leaf p ∷ []) (take-front (spread before) _ (n - 1) short)
    ∙ ap (λ e. spread (e ∷ before)) (sym (leaf_some (Prefix op a) (folded_unary op (root a)) p leaf))

pub unary_other : (op : Unary) (a : Expression Part) (before : List (Expression Part)) (old new : List (Item Part)) (x : Item Part) (n : ℕ)
    → old ≡ spread (a ∷ before) → n ≡ length old → x ≡ get_or old (n - 1) x → leaf_of (folded_unary op x) ≡ None → new ≡ old ++ Item.Unary op ∷ [] → new ≡ spread (prefixed op a ∷ before)
unary_other op a before old new x n is len read none made =
    let same : x ≡ root a = read ∙ ap (λ k. get_or old (k - 1) x) len ∙ ap (λ xs. get_or xs (length xs - 1) x) is ∙ last_item a before x in
    let none : leaf_of (folded_unary op (root a)) ≡ None = ap (λ y. leaf_of (folded_unary op y)) (sym same) ∙ none in
    made ∙ ap (λ xs. xs ++ Item.Unary op ∷ []) is ∙ append_assoc (spread before) (postfix a) (Item.Unary op ∷ [])
    ∙ ap (λ e. spread (e ∷ before)) (sym (leaf_none (Prefix op a) (folded_unary op (root a)) none))

both_varies : (f : ℕ → ℕ → ℕ) (o : Worth) → both f o Worth.Varies ≡ Worth.Varies
both_varies f (Worth.Number n) = refl
both_varies f Worth.Unknown = refl
both_varies f Worth.Varies = refl

distance_none : (t : Table) (o : Single) → distance_of t o Single.Other ≡ Worth.Varies
distance_none t (Single.Place p) = refl
distance_none t Single.Anything = refl
distance_none t Single.Other = refl

-- If an operand is no leaf, the result varies.
right_operator : (t : Table) (op : Binary) (x y : Item Part) → worth_of y ≡ Worth.Varies → single_of y ≡ Single.Other → folded_binary t op x y ≡ Worth.Varies
right_operator t Binary.Subtract x y varies ref =
    ap (λ o. or_else (distance_of t (single_of x) o) (both (binary Binary.Subtract) (worth_of x) (worth_of y))) ref
    ∙ ap (λ o. or_else o (both (binary Binary.Subtract) (worth_of x) (worth_of y))) (distance_none t (single_of x))
    ∙ ap (both (binary Binary.Subtract) (worth_of x)) varies ∙ both_varies (binary Binary.Subtract) (worth_of x)
right_operator t op x y varies ref = ap (both (binary op) (worth_of x)) varies ∙ both_varies (binary op) (worth_of x)

left_operator : (t : Table) (op : Binary) (x y : Item Part) → worth_of x ≡ Worth.Varies → single_of x ≡ Single.Other → folded_binary t op x y ≡ Worth.Varies
left_operator t Binary.Subtract x y varies ref =
    ap (λ o. or_else (distance_of t o (single_of y)) (both (binary Binary.Subtract) (worth_of x) (worth_of y))) ref
    ∙ ap (λ o. both (binary Binary.Subtract) o (worth_of y)) varies
left_operator t op x y varies ref = ap (λ o. both (binary op) o (worth_of y)) varies

same_fold : (t : Table) (op : Binary) (a b : Expression Part) (before : List (Expression Part)) (x y : Item Part)
    → (is_leaf (root b) ≡ true → x ≡ get_or (spread (b ∷ a ∷ before)) (length (spread (b ∷ a ∷ before)) - 2) x) → y ≡ root b → folded_binary t op x y ≡ folded_binary t op (root a) (root b)
same_fold t op a (Leaf part) before x y left right = ap (λ z. folded_binary t op x z) right ∙ ap (λ z. folded_binary t op z (Item.Leaf part)) (left refl ∙ second_item part a before x)
same_fold t op a (Prefix u b) before x y left right = ap (λ z. folded_binary t op x z) right ∙ right_operator t op x (Item.Unary u) refl refl ∙ sym (right_operator t op (root a) (Item.Unary u) refl refl)
same_fold t op a (Infix o b c) before x y left right = ap (λ z. folded_binary t op x z) right ∙ right_operator t op x (Item.Binary o) refl refl ∙ sym (right_operator t op (root a) (Item.Binary o) refl refl)

-- If the result of an infix operator is fixed, both operands are leaves.
two_leaves : (t : Table) (op : Binary) (a b : Expression Part) (n : Part) → leaf_of (folded_binary t op (root a) (root b)) ≡ Some n → (p : Part) × (q : Part) × (a ≡ Leaf p) × (b ≡ Leaf q)
two_leaves t op (Leaf p) (Leaf q) n is = (p, q, refl, refl)
two_leaves t op (Leaf p) (Prefix u b) n is = let none = ap leaf_of (right_operator t op (Item.Leaf p) (Item.Unary u) refl refl) in cc
two_leaves t op (Leaf p) (Infix o b c) n is = let none = ap leaf_of (right_operator t op (Item.Leaf p) (Item.Binary o) refl refl) in cc
two_leaves t op (Prefix u a) b n is = let none = ap leaf_of (left_operator t op (Item.Unary u) (root b) refl refl) in cc
two_leaves t op (Infix o a c) b n is = let none = ap leaf_of (left_operator t op (Item.Binary o) (root b) refl refl) in cc

pub right_root : (a b : Expression Part) (before : List (Expression Part)) (old : List (Item Part)) (y : Item Part) (n : ℕ)
    → old ≡ spread (b ∷ a ∷ before) → n ≡ length old → y ≡ get_or old (n - 1) y → y ≡ root b
right_root a b before old y n is len right = right ∙ ap (λ k. get_or old (k - 1) y) len ∙ ap (λ xs. get_or xs (length xs - 1) y) is ∙ last_item b (a ∷ before) y

roots : (t : Table) (op : Binary) (a b : Expression Part) (before : List (Expression Part)) (old : List (Item Part)) (x y : Item Part) (n : ℕ)
    → old ≡ spread (b ∷ a ∷ before) → n ≡ length old → (EndsInLeaf old → x ≡ get_or old (n - 2) x) → y ≡ get_or old (n - 1) y → folded_binary t op x y ≡ folded_binary t op (root a) (root b)
roots t op a b before old x y n is len left right =
    let ends : is_leaf (root b) ≡ true → EndsInLeaf old = λ leaf. subst EndsInLeaf (sym is) (λ d. ap is_leaf (last_item b (a ∷ before) d) ∙ leaf) in
    same_fold t op a b before x y (λ leaf. left (ends leaf) ∙ ap (λ k. get_or old (k - 2) x) len ∙ ap (λ xs. get_or xs (length xs - 2) x) is) (right_root a b before old y n is len right)

pub binary_number : (t : Table) (op : Binary) (a b : Expression Part) (before : List (Expression Part)) (old new : List (Item Part)) (x y : Item Part) (n : ℕ) (m : Part)
    → old ≡ spread (b ∷ a ∷ before) → n ≡ length old → (EndsInLeaf old → x ≡ get_or old (n - 2) x) → y ≡ get_or old (n - 1) y → leaf_of (folded_binary t op x y) ≡ Some m
    → new ≡ take (n - 2) old ++ Item.Leaf m ∷ [] → new ≡ spread (joined t op a b ∷ before)
binary_number t op a b before old new x y n m is len left right leaf made =
    let same : leaf_of (folded_binary t op (root a) (root b)) ≡ Some m = ap leaf_of (sym (roots t op a b before old x y n is len left right)) ∙ leaf in
    let w = two_leaves t op a b m same in
    let whole : old ≡ (spread before ++ Item.Leaf w.0 ∷ []) ++ Item.Leaf w.1 ∷ [] =
    is ∙ ap (λ e. (spread before ++ postfix e) ++ postfix b) w.2 ∙ ap (λ e. (spread before ++ Item.Leaf w.0 ∷ []) ++ postfix e) w.3 in
    let apart : old ≡ spread before ++ (Item.Leaf w.0 ∷ Item.Leaf w.1 ∷ []) = whole ∙ append_assoc (spread before) (Item.Leaf w.0 ∷ []) (Item.Leaf w.1 ∷ []) in
    let short : n - 2 ≡ length (spread before) = omega (arith, len, ap length apart, length-append (spread before) (Item.Leaf w.0 ∷ Item.Leaf w.1 ∷ [])) in
    made ∙ ap (λ xs. take (n - 2) xs ++ Item.Leaf m ∷ []) apart
    ∙ ap (λ xs. xs ++ Item.Leaf m ∷ []) (take-front (spread before) _ (n - 2) short)
    ∙ ap (λ e. spread (e ∷ before)) (sym (leaf_some (Infix op a b) (folded_binary t op (root a) (root b)) m same))

pub binary_other : (t : Table) (op : Binary) (a b : Expression Part) (before : List (Expression Part)) (old new : List (Item Part)) (x y : Item Part) (n : ℕ)
    → old ≡ spread (b ∷ a ∷ before) → n ≡ length old → (EndsInLeaf old → x ≡ get_or old (n - 2) x) → y ≡ get_or old (n - 1) y → leaf_of (folded_binary t op x y) ≡ None
    → new ≡ old ++ Item.Binary op ∷ [] → new ≡ spread (joined t op a b ∷ before)
binary_other t op a b before old new x y n is len left right none made =
    let same : leaf_of (folded_binary t op (root a) (root b)) ≡ None = ap leaf_of (sym (roots t op a b before old x y n is len left right)) ∙ none in
    let apart : (((spread before ++ postfix a) ++ postfix b) ++ Item.Binary op ∷ []) ≡ spread before ++ ((postfix a ++ postfix b) ++ Item.Binary op ∷ []) = simp append_assoc in
    made ∙ ap (λ xs. xs ++ Item.Binary op ∷ []) is ∙ apart ∙ ap (λ e. spread (e ∷ before)) (sym (leaf_none (Infix op a b) (folded_binary t op (root a) (root b)) same))

-- If the result of an operator is fixed, the items before it are leaves.
unary_is : (op : Unary) (x : Item Part) (p : Part) → leaf_of (folded_unary op x) ≡ Some p → is_leaf x ≡ true
unary_is op (Item.Leaf q) p leaf = refl
unary_is op (Item.Unary u) p leaf = cc
unary_is op (Item.Binary o) p leaf = cc

right_is : (t : Table) (op : Binary) (x y : Item Part) (p : Part) → leaf_of (folded_binary t op x y) ≡ Some p → is_leaf y ≡ true
right_is t op x (Item.Leaf q) p leaf = refl
right_is t op x (Item.Unary u) p leaf = let none = ap leaf_of (right_operator t op x (Item.Unary u) refl refl) in cc
right_is t op x (Item.Binary o) p leaf = let none = ap leaf_of (right_operator t op x (Item.Binary o) refl refl) in cc

left_is : (t : Table) (op : Binary) (x y : Item Part) (p : Part) → leaf_of (folded_binary t op x y) ≡ Some p → is_leaf x ≡ true
left_is t op (Item.Leaf q) y p leaf = refl
left_is t op (Item.Unary u) y p leaf = let none = ap leaf_of (left_operator t op (Item.Unary u) y refl refl) in cc
left_is t op (Item.Binary o) y p leaf = let none = ap leaf_of (left_operator t op (Item.Binary o) y refl refl) in cc

ends_in : (old : List (Item Part)) (x : Item Part) → 1 ≤ length old → x ≡ get_or old (length old - 1) x → is_leaf x ≡ true → EndsInLeaf old
ends_in old x some read leaf = λ d. ap is_leaf (get_or_default old (length old - 1) d x (omega (arith, some)) ∙ sym read) ∙ leaf

pub unary_ends : (op : Unary) (old : List (Item Part)) (x : Item Part) (p : Part) → 1 ≤ length old → x ≡ get_or old (length old - 1) x → leaf_of (folded_unary op x) ≡ Some p → EndsInLeaf old
unary_ends op old x p some read leaf = ends_in old x some read (unary_is op x p leaf)

pub right_ends : (t : Table) (op : Binary) (old : List (Item Part)) (x y : Item Part) (p : Part) → 1 ≤ length old → y ≡ get_or old (length old - 1) y → leaf_of (folded_binary t op x y) ≡ Some p → EndsInLeaf old
right_ends t op old x y p some read leaf = ends_in old y some read (right_is t op x y p leaf)

pub left_ends : (t : Table) (op : Binary) (old : List (Item Part)) (x y : Item Part) (p : Part) → 2 ≤ length old → (EndsInLeaf old → x ≡ get_or old (length old - 2) x) → y ≡ get_or old (length old - 1) y
    → leaf_of (folded_binary t op x y) ≡ Some p → EndsInLeaf (take (length old - 1) old)
left_ends t op old x y p two before read leaf =
    let len : length (take (length old - 1) old) ≡ length old - 1 = length-take-le (length old - 1) old (omega arith) in
    let last : length (take (length old - 1) old) - 1 ≡ length old - 2 = omega (arith, len) in
    let same = before (right_ends t op old x y p (omega (arith, two)) read leaf) in
    ends_in (take (length old - 1) old) x (omega (arith, two, len))
    (same ∙ sym (ap (λ k. get_or (take (length old - 1) old) k x) last ∙ get_or-take (length old - 1) old (length old - 2) x (omega (arith, two)))) (left_is t op x y p leaf)

pub none_of : (o : Option ExprFault) → ((why : ExprFault) → o ≡ Some why → ⊥) → o ≡ None
none_of None never = refl
none_of (Some why) never = absurd (never why refl)

-- the step of a prefix operator, given the expression before it
pub folds_unary : (t : Table) (op : Unary) (before : List (Expression Part)) (new : List (Item Part)) → 1 ≤ length before
    → ((a : Expression Part) (rest : List (Expression Part)) → before ≡ a ∷ rest → new ≡ spread (prefixed op a ∷ rest)) → Folds (fold_one t (Item.Unary op) before) {A = Unit {0}} (Ok tt) new
folds_unary t op [] new enough made = absurd (omega (arith, enough))
folds_unary t op (a ∷ rest) new enough made = (prefixed op a ∷ rest, refl, made a rest refl)
