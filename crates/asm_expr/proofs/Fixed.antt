-- Fixed expressions have one value, and reducing keeps every value.
use Rattle.std.proofs.Common.{◌≡◌, ℕ, List, true, false, if◌then◌else◌, nat_lt, length, refl, sym, ap, ◌∙◌}
use Rattle.asm_expr.specs.Types.{Unary, Binary, Atom, Statement, Worth, Unknown}
use Rattle.asm_expr.specs.declared.part.Part.{Part}
use Rattle.asm_expr.specs.declared.single.Single.{Single}
use Rattle.asm_parse.specs.Values.Arithmetic.{unary, binary}
use Rattle.asm_parse.specs.Expression.{Expression, Leaf, Prefix, Infix}
use Rattle.asm_parse.specs.Values.Items.{value}
use Rattle.asm_expr.specs.Distances.{Step, some_distance}
use Rattle.asm_expr.specs.Names.{Table}
use Rattle.asm_expr.specs.Settling.{known, single, distance_of, difference, or_else, through, both, worth, leaf_or, reduced}
use Rattle.asm_parse.proofs.Places.{one_distance}

through_number : (f : ℕ → ℕ) (w : Worth) (n : ℕ) → through f w ≡ Worth.Number n → (m : ℕ) × (w ≡ Worth.Number m) × (f m ≡ n)
through_number f (Worth.Number m) n e = (m, refl, cc)
through_number f Worth.Unknown n e = cc
through_number f Worth.Varies n e = cc

both_number : (f : ℕ → ℕ → ℕ) (v w : Worth) (n : ℕ) → both f v w ≡ Worth.Number n → (a : ℕ) × (b : ℕ) × (v ≡ Worth.Number a) × (w ≡ Worth.Number b) × (f a b ≡ n)
both_number f (Worth.Number a) w n e = let m = through_number (f a) w n e in (a, m.0, refl, m.1, m.2)
both_number f Worth.Unknown (Worth.Number b) n e = cc
both_number f Worth.Unknown Worth.Unknown n e = cc
both_number f Worth.Unknown Worth.Varies n e = cc
both_number f Worth.Varies w n e = cc

difference_value : (t : Table) (places : ℕ → ℕ) → Step t.statements places → (op : Binary) (a b : Expression Atom) (n : ℕ) → difference t op (known a) (known b) ≡ Worth.Number n
    → value places (Infix op a b) ≡ n
difference_value t places step Binary.Subtract (Leaf (Atom.Ref p)) (Leaf (Atom.Ref q)) n is = one_distance t.statements places step p q n is
difference_value t places step op a b n is = cc

pub fixed_value : (t : Table) (places : ℕ → ℕ) → Step t.statements places → (e : Expression Atom) (n : ℕ) → worth t (known e) ≡ Worth.Number n → value places e ≡ n
fixed_value t places step (Leaf (Atom.Number m)) n is = cc
fixed_value t places step (Leaf (Atom.Ref r)) n is = cc
fixed_value t places step (Prefix op a) n is =
    let m = through_number (unary op) (worth t (known a)) n is in
    ap (unary op) (fixed_value t places step a m.0 m.1) ∙ m.2
fixed_value t places step (Infix op a b) n is =
    elim (difference t op (known a) (known b)) as (λ o. difference t op (known a) (known b) ≡ o → or_else o (both (binary op) (worth t (known a)) (worth t (known b))) ≡ Worth.Number n
    → value places (Infix op a b) ≡ n) [
      | Worth.Number m ↦ λ was e. difference_value t places step op a b n (was ∙ e)
      | Worth.Unknown ↦ λ was e. cc
      | Worth.Varies ↦ λ was e.
          let m = both_number (binary op) (worth t (known a)) (worth t (known b)) n e in
          ap (λ x. binary op x (value places b)) (fixed_value t places step a m.0 m.2) ∙ ap (binary op m.0) (fixed_value t places step b m.1 m.3) ∙ m.4
    ] refl is

-- An expression that is a leaf as it is being settled is that leaf in an object file.
leaf_known : (e : Expression Atom) (n : ℕ) → known e ≡ Leaf (Part.Number n) → e ≡ Leaf (Atom.Number n)
leaf_known (Leaf (Atom.Number m)) n is = let same : m ≡ n = cc in ap (λ k. Leaf (Atom.Number k)) same
leaf_known (Leaf (Atom.Ref r)) n is = cc
leaf_known (Prefix op a) n is = cc
leaf_known (Infix op a b) n is = cc

pub leaf_unknown : (e : Expression Atom) (what : Unknown) → known e ≡ Leaf (Part.Unknown what) → ⊥
leaf_unknown (Leaf (Atom.Number m)) what is = cc
leaf_unknown (Leaf (Atom.Ref r)) what is = cc
leaf_unknown (Prefix op a) what is = cc
leaf_unknown (Infix op a b) what is = cc

prefix_known : (e : Expression Atom) (op : Unary) (a : Expression Part) → known e ≡ Prefix op a → (x : Expression Atom) × (e ≡ Prefix op x) × (a ≡ known x)
prefix_known (Leaf (Atom.Number m)) op a is = cc
prefix_known (Leaf (Atom.Ref r)) op a is = cc
prefix_known (Prefix o x) op a is = let same : o ≡ op = cc in (x, ap (λ p. Prefix p x) same, cc)
prefix_known (Infix o x y) op a is = cc

pub infix_known : (e : Expression Atom) (op : Binary) (a b : Expression Part) → known e ≡ Infix op a b → (x : Expression Atom) × (y : Expression Atom) × (e ≡ Infix op x y) × (a ≡ known x) × (b ≡ known y)
infix_known (Leaf (Atom.Number m)) op a b is = cc
infix_known (Leaf (Atom.Ref r)) op a b is = cc
infix_known (Prefix o x) op a b is = cc
infix_known (Infix o x y) op a b is = let same : o ≡ op = cc in (x, y, ap (λ p. Infix p x y) same, cc, cc)

some_number : (statements : List Statement) (p n : ℕ) → some_distance statements p ≡ Worth.Number n → ⊥
some_number statements p n is = elim (nat_lt (length statements) p) as (λ past. (if past then Worth.Varies else Worth.Unknown) ≡ Worth.Number n → ⊥) [
  | true ↦ λ bad. cc
  | false ↦ λ bad. cc
] is

-- A difference that is a number is one of two addresses.
two_places : (t : Table) (a b : Single) (n : ℕ) → distance_of t a b ≡ Worth.Number n → (p : ℕ) × (q : ℕ) × (a ≡ Single.Place p) × (b ≡ Single.Place q)
two_places t (Single.Place p) (Single.Place q) n is = (p, q, refl, refl)
two_places t (Single.Place p) Single.Anything n is = absurd (some_number t.statements p n is)
two_places t (Single.Place p) Single.Other n is = cc
two_places t Single.Anything (Single.Place q) n is = absurd (some_number t.statements q n is)
two_places t Single.Anything Single.Anything n is = cc
two_places t Single.Anything Single.Other n is = cc
two_places t Single.Other b n is = cc

one_place : (e : Expression Part) (p : ℕ) → single e ≡ Single.Place p → e ≡ Leaf (Part.Ref p)
one_place (Leaf (Part.Number n)) p is = cc
one_place (Leaf (Part.Ref r)) p is = let same : r ≡ p = cc in ap (λ k. Leaf (Part.Ref k)) same
one_place (Leaf (Part.Unknown Unknown.Anything)) p is = cc
one_place (Leaf (Part.Unknown Unknown.Number)) p is = cc
one_place (Leaf (Part.Unknown Unknown.Varies)) p is = cc
one_place (Leaf (Part.Unknown Unknown.VariesInByte)) p is = cc
one_place (Prefix op a) p is = cc
one_place (Infix op a b) p is = cc

-- An expression that is a number has no unknown part,
number_known : (t : Table) (e : Expression Part) (n : ℕ) → worth t e ≡ Worth.Number n → (x : Expression Atom) × (e ≡ known x)
number_known t (Leaf (Part.Number m)) n is = (Leaf (Atom.Number m), refl)
number_known t (Leaf (Part.Ref r)) n is = cc
number_known t (Leaf (Part.Unknown Unknown.Anything)) n is = cc
number_known t (Leaf (Part.Unknown Unknown.Number)) n is = cc
number_known t (Leaf (Part.Unknown Unknown.Varies)) n is = cc
number_known t (Leaf (Part.Unknown Unknown.VariesInByte)) n is = cc
number_known t (Prefix op a) n is =
    let m = through_number (unary op) (worth t a) n is in
    let x = number_known t a m.0 m.1 in
    (Prefix op x.0, ap (Prefix op) x.1)
number_known t (Infix op a b) n is =
    elim (difference t op a b) as (λ o. difference t op a b ≡ o → or_else o (both (binary op) (worth t a) (worth t b)) ≡ Worth.Number n → (x : Expression Atom) × (Infix op a b ≡ known x)) [
      | Worth.Number m ↦ λ was e. distance_known t op a b m was
      | Worth.Unknown ↦ λ was e. cc
      | Worth.Varies ↦ λ was e.
          let m = both_number (binary op) (worth t a) (worth t b) n e in
          let x = number_known t a m.0 m.2 in
          let y = number_known t b m.1 m.3 in
          (Infix op x.0 y.0, ap (λ z. Infix op z b) x.1 ∙ ap (Infix op (known x.0)) y.1)
    ] refl is
  where
    distance_known : (t : Table) (op : Binary) (a b : Expression Part) (n : ℕ) → difference t op a b ≡ Worth.Number n → (x : Expression Atom) × (Infix op a b ≡ known x)
    distance_known t Binary.Subtract a b n is =
        let s = two_places t (single a) (single b) n is in
        let left : Leaf (Part.Ref s.0) ≡ a = sym (one_place a s.0 s.2) in
        let right : Leaf (Part.Ref s.1) ≡ b = sym (one_place b s.1 s.3) in
        (Infix Binary.Subtract (Leaf (Atom.Ref s.0)) (Leaf (Atom.Ref s.1)), sym (ap (λ x. Infix Binary.Subtract x (Leaf (Part.Ref s.1))) left ∙ ap (Infix Binary.Subtract a) right))
    distance_known t op a b n is = cc

-- nor has one that reduces to an expression without one, and it has the value of the expression that it reduces to.
pub record Same (t : Table) (e : Expression Part) (x : Expression Atom) : Type 0 where
  pub whole : Expression Atom
  pub known : e ≡ known whole
  pub value : (places : ℕ → ℕ) → Step t.statements places → value places x ≡ value places whole

same_number : (t : Table) (e : Expression Part) (x : Expression Atom) (n : ℕ) → worth t e ≡ Worth.Number n → Leaf (Part.Number n) ≡ known x → Same t e x
same_number t e x n is made =
    let w = number_known t e n is in
    record {
      whole = w.0;
      known = w.1;
      value = λ places step. ap (value places) (leaf_known x n (sym made)) ∙ sym (fixed_value t places step w.0 n (ap (worth t) (sym w.1) ∙ is));
    }

pub same : (t : Table) (e : Expression Part) (x : Expression Atom) → reduced t e ≡ known x → Same t e x
same t (Leaf part) x made = record { whole = x; known = made; value = λ places step. refl }
same t (Prefix op a) x made =
    elim (worth t (Prefix op a)) as (λ w. worth t (Prefix op a) ≡ w → leaf_or (Prefix op (reduced t a)) w ≡ known x → Same t (Prefix op a) x) [
      | Worth.Number n ↦ λ was is. same_number t (Prefix op a) x n was is
      | Worth.Unknown ↦ λ was is. absurd (leaf_unknown x Unknown.Number (sym is))
      | Worth.Varies ↦ λ was is.
          let p = prefix_known x op (reduced t a) (sym is) in
          let s = same t a p.0 p.2 in
          record {
            whole = Prefix op s.whole;
            known = ap (Prefix op) s.known;
            value = λ places step. ap (value places) p.1 ∙ ap (unary op) (s.value places step);
          }
    ] refl made
same t (Infix op a b) x made =
    elim (worth t (Infix op a b)) as (λ w. worth t (Infix op a b) ≡ w → leaf_or (Infix op (reduced t a) (reduced t b)) w ≡ known x → Same t (Infix op a b) x) [
      | Worth.Number n ↦ λ was is. same_number t (Infix op a b) x n was is
      | Worth.Unknown ↦ λ was is. absurd (leaf_unknown x Unknown.Number (sym is))
      | Worth.Varies ↦ λ was is.
          let p = infix_known x op (reduced t a) (reduced t b) (sym is) in
          let s = same t a p.0 p.3 in
          let u = same t b p.1 p.4 in
          record {
            whole = Infix op s.whole u.whole;
            known = ap (λ z. Infix op z b) s.known ∙ ap (Infix op (known s.whole)) u.known;
            value = λ places step. ap (value places) p.2 ∙ ap (λ v. binary op v (value places p.1)) (s.value places step) ∙ ap (binary op (value places s.whole)) (u.value places step);
          }
    ] refl made
