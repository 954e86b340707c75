-- If no division of an expression has an error, then the reduced expression divides only by numbers other than 0, and by parts
-- without a value.
use Rattle.std.proofs.Common.{◌≡◌, ℕ, zero, suc, ◌+◌, ◌≤◌, Bool, true, false, not, ◌||◌, ◌&&◌, List, [], ◌∷◌, ◌++◌, Option, Some, None, length, map, nat_lt, if◌then◌else◌, refl, sym, ap, ◌∙◌, arith, append_assoc, append-nil, length-append}
use Rattle.std.specs.Cmp.Derive.{both_true}
use Rattle.std.proofs.lemmas.Bool.{ltb-false}
use Rattle.asm_expr.specs.Types.{Binary, Item, Atom, ExprFault, Unknown, Worth}
use Rattle.asm_expr.specs.declared.part.Part.{Part}
use Rattle.asm_parse.specs.Operators.{divides}
use Rattle.asm_parse.specs.Expression.{Expression, Leaf, Prefix, Infix, postfix}
use Rattle.asm_parse.specs.Values.Items.{is_division, is_divisor, is_guarded, is_guarded_behind}
use Rattle.asm_parse.specs.Source.{Operand}
use Rattle.asm_expr.specs.Names.{Table}
use Rattle.asm_expr.specs.Settling.{known_item, replaced, expression_size, worth, leaf_or, reduced, first_of_two, divisor_fault, division_fault, divisions_fault, too_large, fault_behind, fault}
use Rattle.asm_expr.specs.Private.Folding.{root}
use Rattle.asm_parse.proofs.Judgements.{and_parts}

-- whether an item is a number other than 0, or a part without a value
abbrev is_safe : Item Part → Bool
is_safe (Item.Leaf (Part.Number (suc n))) = true
is_safe (Item.Leaf (Part.Unknown what)) = true
is_safe _ = false

abbrev divides_at : Item Part → Bool
divides_at (Item.Binary op) = divides op
divides_at _ = false

abbrev safe_behind : Item Part → List (Item Part) → Bool
safe_behind before [] = true
safe_behind before (item ∷ items) = (not (divides_at item) || is_safe before) && safe_behind item items

-- Each division of the expression has such an item as its divisor.
abbrev pub Guarded : Expression Part → Type 0
Guarded (Leaf part) = Unit {0}
Guarded (Prefix op a) = Guarded a
Guarded (Infix op a b) = Guarded a × Guarded b × ((not (divides op) || is_safe (root b)) ≡ true)

guarded_behind : (e : Expression Part) → Guarded e → (x : Item Part) (rest : List (Item Part)) → safe_behind (root e) rest ≡ true → safe_behind x (postfix e ++ rest) ≡ true
guarded_behind (Leaf part) g x rest h = h
guarded_behind (Prefix op a) g x rest h =
    rw append_assoc (guarded_behind a g x (Item.Unary op ∷ rest) h)
guarded_behind (Infix op a b) g x rest h =
    let split : (postfix a ++ postfix b) ++ Item.Binary op ∷ [] ++ rest ≡ postfix a ++ (postfix b ++ Item.Binary op ∷ rest) = simp append_assoc in
    ap (safe_behind x) split ∙ guarded_behind a g.0 x (postfix b ++ Item.Binary op ∷ rest) (guarded_behind b g.1 (root a) (Item.Binary op ∷ rest) (both_true g.2 h))

-- Such an item of an object file is such an item of an expression that is being settled.
known_safe : (x : Item Atom) → is_safe (known_item x) ≡ is_divisor x
known_safe (Item.Leaf (Atom.Number zero)) = refl
known_safe (Item.Leaf (Atom.Number (suc n))) = refl
known_safe (Item.Leaf (Atom.Ref r)) = refl
known_safe (Item.Unary op) = refl
known_safe (Item.Binary op) = refl

known_division : (x : Item Atom) → divides_at (known_item x) ≡ is_division x
known_division (Item.Leaf (Atom.Number n)) = refl
known_division (Item.Leaf (Atom.Ref r)) = refl
known_division (Item.Unary op) = refl
known_division (Item.Binary op) = refl

known_behind : (x : Item Atom) (items : List (Item Atom)) → safe_behind (known_item x) (map known_item items) ≡ is_guarded_behind x items
known_behind x [] = refl
known_behind x (y ∷ items) =
    ap (λ d. (not d || is_safe (known_item x)) && safe_behind (known_item y) (map known_item items)) (known_division y)
    ∙ ap (λ s. (not (is_division y) || s) && safe_behind (known_item y) (map known_item items)) (known_safe x)
    ∙ ap (λ s. (not (is_division y) || is_divisor x) && s) (known_behind y items)

first_guarded : (x : Item Atom) (items : List (Item Atom)) → is_guarded_behind x items ≡ true → is_guarded items ≡ true
first_guarded x [] h = refl
first_guarded x (item ∷ items) h = (and_parts _ _ h).1

pub guarded_postfix : (e : Expression Part) (items : List (Item Atom)) → map known_item items ≡ postfix e → Guarded e → is_guarded items ≡ true
guarded_postfix e items is g =
    let zero : Item Atom = Item.Leaf (Atom.Number 0) in
    first_guarded zero items (sym (known_behind zero items) ∙ ap (safe_behind (known_item zero)) (is ∙ sym (append-nil (postfix e))) ∙ guarded_behind e g (known_item zero) [] refl)

first_none : (f g : Option ExprFault) → first_of_two f g ≡ None → (f ≡ None) × (g ≡ None)
first_none None g e = (refl, e)
first_none (Some fault) g e = cc

leaf_guarded : (other : Expression Part) (o : Worth) → Guarded other → Guarded (leaf_or other o)
leaf_guarded other Worth.Varies g = g
leaf_guarded other Worth.Unknown g = tt
leaf_guarded other (Worth.Number n) g = tt

pub reduced_number : (t : Table) (e : Expression Part) (n : ℕ) → worth t e ≡ Worth.Number n → reduced t e ≡ Leaf (Part.Number n)
reduced_number t (Leaf (Part.Number m)) n is = let same : m ≡ n = cc in ap (λ k. Leaf (Part.Number k)) same
reduced_number t (Leaf (Part.Ref r)) n is = cc
reduced_number t (Leaf (Part.Unknown Unknown.Anything)) n is = cc
reduced_number t (Leaf (Part.Unknown Unknown.Number)) n is = cc
reduced_number t (Leaf (Part.Unknown Unknown.Varies)) n is = cc
reduced_number t (Leaf (Part.Unknown Unknown.VariesInByte)) n is = cc
reduced_number t (Prefix op a) n is = ap (leaf_or (Prefix op (reduced t a))) is
reduced_number t (Infix op a b) n is = ap (leaf_or (Infix op (reduced t a) (reduced t b))) is

pub reduced_unknown : (t : Table) (e : Expression Part) → worth t e ≡ Worth.Unknown → (what : Unknown) × (reduced t e ≡ Leaf (Part.Unknown what))
reduced_unknown t (Leaf (Part.Number m)) is = cc
reduced_unknown t (Leaf (Part.Ref r)) is = cc
reduced_unknown t (Leaf (Part.Unknown what)) is = (what, refl)
reduced_unknown t (Prefix op a) is = (Unknown.Number, ap (leaf_or (Prefix op (reduced t a))) is)
reduced_unknown t (Infix op a b) is = (Unknown.Number, ap (leaf_or (Infix op (reduced t a) (reduced t b))) is)

divides_by : (t : Table) (op : Binary) (b : Expression Part) → division_fault t op b ≡ None → (not (divides op) || is_safe (root (reduced t b))) ≡ true
divides_by t op b none =
    elim (divides op) as (λ d. (if d then divisor_fault (worth t b) else None) ≡ None → (not d || is_safe (root (reduced t b))) ≡ true) [
      | false ↦ λ _. refl
      | true ↦ λ e. elim (worth t b) as (λ o. worth t b ≡ o → divisor_fault o ≡ None → is_safe (root (reduced t b)) ≡ true) [
        | Worth.Varies ↦ λ _ bad. cc
        | Worth.Unknown ↦ λ is _. ap (λ x. is_safe (root x)) (reduced_unknown t b is).1
        | Worth.Number n ↦ λ was good. elim n as (λ m. worth t b ≡ Worth.Number m → divisor_fault (Worth.Number m) ≡ None → is_safe (root (reduced t b)) ≡ true) [
          | zero ↦ λ _ bad. cc
          | suc m ↦ λ is _. ap (λ x. is_safe (root x)) (reduced_number t b (suc m) is)
        ] was good
      ] refl e
    ] none

pub guarded_reduced : (t : Table) (e : Expression Part) → divisions_fault t e ≡ None → Guarded (reduced t e)
guarded_reduced t (Leaf part) none = tt
guarded_reduced t (Prefix op a) none = leaf_guarded (Prefix op (reduced t a)) _ (guarded_reduced t a none)
guarded_reduced t (Infix op a b) none =
    let f = first_none _ _ none in
    let g = first_none _ _ f.1 in
    leaf_guarded (Infix op (reduced t a) (reduced t b)) _ (guarded_reduced t a f.0, guarded_reduced t b g.0, divides_by t op b g.1)

-- An expression without an error has none in its divisions, and is not too large.
pub sound : (t : Table) (n : ℕ) (e : Expression Operand) → fault_behind n t e ≡ None → divisions_fault t (replaced t e) ≡ None
sound t n (Leaf operand) none = (first_none _ _ none).1
sound t n (Prefix op a) none = sound t n a (first_none _ _ none).0
sound t n (Infix op a b) none =
    let f = first_none _ _ none in
    let g = first_none _ _ f.1 in
    let h = first_none _ _ g.1 in
    rw (sound t n a f.0, sound t (n + expression_size t a) b g.0) h.1

fits : (n : ℕ) → too_large n ≡ None → n ≤ 64
fits n none = elim (nat_lt 64 n) as (λ b. nat_lt 64 n ≡ b → (if b then Some ExprFault.TooLarge else None) ≡ None → n ≤ 64) [
  | true ↦ λ _ bad. cc
  | false ↦ λ is _. omega (arith, ltb-false 64 n is)
] refl none

pub small : (t : Table) (n : ℕ) (e : Expression Operand) → fault_behind n t e ≡ None → n + expression_size t e ≤ 64
small t n (Leaf operand) none = fits _ (first_none _ _ none).0
small t n (Prefix op a) none = fits _ (first_none _ _ none).1
small t n (Infix op a b) none =
    let f = first_none _ _ none in
    let g = first_none _ _ f.1 in
    fits _ (first_none _ _ g.1).0

pub positive : {L : Type 0} (e : Expression L) → 1 ≤ length (postfix e)
positive (Leaf part) = omega arith
positive (Prefix op a) = rw length-append (omega arith)
positive (Infix op a b) = rw length-append (omega arith)

leaf_shorter : (n : ℕ) (other : Expression Part) (o : Worth) → 1 ≤ n → length (postfix other) ≤ n → length (postfix (leaf_or other o)) ≤ n
leaf_shorter n other Worth.Varies h k = k
leaf_shorter n other Worth.Unknown h k = omega arith
leaf_shorter n other (Worth.Number m) h k = omega arith

pub reduced_shorter : (t : Table) (e : Expression Part) → length (postfix (reduced t e)) ≤ length (postfix e)
reduced_shorter t (Leaf part) = omega arith
reduced_shorter t (Prefix op a) =
    leaf_shorter _ (Prefix op (reduced t a)) _ (positive (Prefix op a))
    (omega (arith, reduced_shorter t a, length-append (postfix (reduced t a)) (Item.Unary op ∷ []), length-append (postfix a) (Item.Unary op ∷ [])))
reduced_shorter t (Infix op a b) =
    leaf_shorter _ (Infix op (reduced t a) (reduced t b)) _ (positive (Infix op a b))
    (omega (
      arith,
      reduced_shorter t a,
      reduced_shorter t b,
      length-append (postfix (reduced t a) ++ postfix (reduced t b)) (Item.Binary op ∷ []),
      length-append (postfix (reduced t a)) (postfix (reduced t b)),
      length-append (postfix a ++ postfix b) (Item.Binary op ∷ []),
      length-append (postfix a) (postfix b),
    ))
