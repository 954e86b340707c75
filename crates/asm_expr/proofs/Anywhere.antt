-- Constant expressions: they are settled in the same way anywhere, and as numbers if their names stand for numbers.
use Rattle.std.proofs.Common.{◌≡◌, ℕ, Bool, true, List, [], ◌∷◌, ◌++◌, Option, Some, None, Ok, refl, sym, ap, ◌∙◌}
use Rattle.std.specs.List.{list_all}
use Rattle.std.proofs.lemmas.List.Folds.{list_all-append}
use Rattle.asm_expr.specs.Types.{Atom, Binary, ExprFault, Item, Meaning, Settled, Statement, Unary, Unknown, Worth}
use Rattle.asm_expr.specs.declared.part.Part.{Part}
use Rattle.asm_expr.specs.declared.single.Single.{Single}
use Rattle.asm_parse.specs.Values.Arithmetic.{unary, binary}
use Rattle.asm_parse.specs.Expression.{Expression, Leaf, Prefix, Infix, postfix}
use Rattle.asm_parse.specs.Source.{Operand, Number, Name, Here}
use Rattle.asm_expr.specs.Names.{Table, found}
use Rattle.asm_expr.specs.Settling.{both, difference, distance_of, fault_behind, is_constant_item, is_constant_name, items_known, meant, or_else, replaced, settled, settled_as, single, through, unknown_of, unless_fault, worth}
use Rattle.asm_expr.specs.Equating.{equated}
use Rattle.asm_expr.specs.Origins.{is_number_item, is_number_name}
use Rattle.asm_expr.proofs.Alike.{AreAlike, equated_alike, settled_alike}
use Rattle.asm_expr.proofs.Guards.{reduced_number}
use Rattle.asm_parse.proofs.Judgements.{and_parts}
use Rattle.asm_expr.proofs.Offsets.{no_place}
use Rattle.asm_expr.proofs.Origins.{Places}

-- No address is in the expression.
abbrev IsBare : Expression Part → Type 0
IsBare e = Places (λ r. ⊥) e

-- The names of a table, with another `$` and other statements.
abbrev at : Table → ℕ → List Statement → Table
at t here statements = record t { here = here; statements = statements }

bare_difference : (t : Table) (here : ℕ) (statements : List Statement) (op : Binary) (a b : Expression Part) → IsBare a → IsBare b → difference (at t here statements) op a b ≡ difference t op a b
bare_difference t here statements Binary.Subtract a b bare_a bare_b = apart (single a) (single b) (no_ref a bare_a) (no_ref b bare_b)
  where
    no_ref : (e : Expression Part) → IsBare e → (p : ℕ) → single e ≡ Single.Place p → ⊥
    no_ref (Leaf (Part.Number n)) bare p is = cc
    no_ref (Leaf (Part.Ref r)) bare p is = bare
    no_ref (Leaf (Part.Unknown Unknown.Anything)) bare p is = cc
    no_ref (Leaf (Part.Unknown Unknown.Number)) bare p is = cc
    no_ref (Leaf (Part.Unknown Unknown.Varies)) bare p is = cc
    no_ref (Leaf (Part.Unknown Unknown.VariesInByte)) bare p is = cc
    no_ref (Prefix op a) bare p is = cc
    no_ref (Infix op a b) bare p is = cc

    apart : (x y : Single) → ((p : ℕ) → x ≡ Single.Place p → ⊥) → ((p : ℕ) → y ≡ Single.Place p → ⊥) → distance_of (at t here statements) x y ≡ distance_of t x y
    apart (Single.Place p) y left right = absurd (left p refl)
    apart Single.Anything (Single.Place q) left right = absurd (right q refl)
    apart Single.Anything Single.Anything left right = refl
    apart Single.Anything Single.Other left right = refl
    apart Single.Other y left right = refl
bare_difference t here statements op a b bare_a bare_b = refl

bare_worth : (t : Table) (here : ℕ) (statements : List Statement) (e : Expression Part) → IsBare e → worth (at t here statements) e ≡ worth t e
bare_worth t here statements (Leaf (Part.Number n)) bare = refl
bare_worth t here statements (Leaf (Part.Ref r)) bare = refl
bare_worth t here statements (Leaf (Part.Unknown what)) bare = refl
bare_worth t here statements (Prefix op a) bare = ap (through (unary op)) (bare_worth t here statements a bare)
bare_worth t here statements (Infix op a b) bare =
    ap (λ d. or_else d (both (binary op) (worth (at t here statements) a) (worth (at t here statements) b))) (bare_difference t here statements op a b bare.0 bare.1)
    ∙ ap (λ w. or_else (difference t op a b) (both (binary op) w (worth (at t here statements) b))) (bare_worth t here statements a bare.0)
    ∙ ap (λ w. or_else (difference t op a b) (both (binary op) (worth t a) w)) (bare_worth t here statements b bare.1)

-- A constant expression contains no address, and its names stand for the same anywhere.
name_bare : (m : Option Meaning) → is_constant_name m ≡ true → IsBare (meant m)
name_bare None c = tt
name_bare (Some (Meaning.Label s)) c = cc
name_bare (Some (Meaning.External r)) c = cc
name_bare (Some (Meaning.Constant n)) c = tt
name_bare (Some Meaning.UnknownConstant) c = tt
name_bare (Some (Meaning.Equ equated)) c = cc
name_bare (Some Meaning.Faulty) c = tt

-- what holds of each item holds of each item of an operand
pub of_prefix : (f : Item Operand → Bool) (op : Unary) (a : Expression Operand) → list_all f (postfix (Prefix op a)) ≡ true → list_all f (postfix a) ≡ true
of_prefix f op a c = (and_parts _ _ (sym (list_all-append f (postfix a) (Item.Unary op ∷ [])) ∙ c)).0

pub of_infix : (f : Item Operand → Bool) (op : Binary) (a b : Expression Operand) → list_all f (postfix (Infix op a b)) ≡ true → (list_all f (postfix a) ≡ true) × (list_all f (postfix b) ≡ true)
of_infix f op a b c =
    let parts = and_parts _ _ (sym (list_all-append f (postfix a ++ postfix b) (Item.Binary op ∷ [])) ∙ c) in
    and_parts _ _ (sym (list_all-append f (postfix a) (postfix b)) ∙ parts.0)

alike : (t : Table) (here : ℕ) (statements : List Statement) (e : Expression Operand) → list_all (is_constant_item t) (postfix e) ≡ true → AreAlike (at t here statements) t (λ r. ⊥) e
alike t here statements (Leaf (Number n)) c = record { part = refl; size = refl; constant = refl; places = tt }
alike t here statements (Leaf Here) c = cc
alike t here statements (Leaf (Name name)) c = record { part = refl; size = refl; constant = refl; places = name_bare (found t name) (and_parts _ _ c).0 }
alike t here statements (Prefix op a) c = alike t here statements a (of_prefix (is_constant_item t) op a c)
alike t here statements (Infix op a b) c =
    let sides = of_infix (is_constant_item t) op a b c in
    (alike t here statements a sides.0, alike t here statements b sides.1)

pub settled_anywhere : (t : Table) (e : Expression Operand) → list_all (is_constant_item t) (postfix e) ≡ true → (here : ℕ) (statements : List Statement)
    → settled (record t { here = here; statements = statements }) e ≡ settled t e
settled_anywhere t e c here statements = settled_alike (at t here statements) t (λ r. ⊥) (bare_worth t here statements) e (alike t here statements e c)

pub equated_anywhere : (t : Table) (e : Expression Operand) → list_all (is_constant_item t) (postfix e) ≡ true → (here : ℕ) (statements : List Statement)
    → equated (record t { here = here; statements = statements }) e ≡ equated t e
equated_anywhere t e c here statements = equated_alike (at t here statements) t (λ r. ⊥) (bare_worth t here statements) e (alike t here statements e c)

-- An expression of numbers is a number.
number_name : (m : Option Meaning) → is_number_name m ≡ true → (n : ℕ) × (meant m ≡ Leaf (Part.Number n))
number_name None c = cc
number_name (Some (Meaning.Label s)) c = cc
number_name (Some (Meaning.External r)) c = cc
number_name (Some (Meaning.Constant n)) c = (n, refl)
number_name (Some Meaning.UnknownConstant) c = cc
number_name (Some (Meaning.Equ equated)) c = cc
number_name (Some Meaning.Faulty) c = cc

no_difference : (t : Table) (op : Binary) (a b : Expression Part) → single a ≡ Single.Other → difference t op a b ≡ Worth.Varies
no_difference t Binary.Subtract a b other = ap (λ s. distance_of t s (single b)) other
no_difference t op a b other = refl

pub number : (t : Table) (e : Expression Operand) → list_all (is_number_item t) (postfix e) ≡ true → (n : ℕ) × (worth t (replaced t e) ≡ Worth.Number n)
number t (Leaf (Number n)) c = (n, refl)
number t (Leaf Here) c = cc
number t (Leaf (Name name)) c = let n = number_name (found t name) (and_parts _ _ c).0 in (n.0, ap (worth t) n.1)
number t (Prefix op a) c = let n = number t a (of_prefix (is_number_item t) op a c) in (unary op n.0, ap (through (unary op)) n.1)
number t (Infix op a b) c =
    let sides = of_infix (is_number_item t) op a b c in
    let m = number t a sides.0 in
    let n = number t b sides.1 in (
      binary op m.0 n.0,
      ap (λ d. or_else d (both (binary op) (worth t (replaced t a)) (worth t (replaced t b)))) (no_difference t op (replaced t a) (replaced t b) (no_place t (replaced t a) m.0 m.1))
          ∙ ap (λ w. both (binary op) w (worth t (replaced t b))) m.1 ∙ ap (through (binary op m.0)) n.1,
    )

pub number_settled : (t : Table) (e : Expression Operand) → list_all (is_number_item t) (postfix e) ≡ true → (s : Settled) → settled t e ≡ Ok s
    → (n : ℕ) × (worth t (replaced t e) ≡ Worth.Number n) × (s ≡ Settled.Known (Item.Leaf (Atom.Number n) ∷ []))
number_settled t e c s is =
    let n = number t e c in
    let whole : settled t e ≡ unless_fault (fault_behind 0 t e) (Settled.Known (Item.Leaf (Atom.Number n.0) ∷ [])) =
    ap (λ x. unless_fault (fault_behind 0 t e) (settled_as (items_known (postfix x)) (unknown_of x))) (reduced_number t (replaced t e) n.0 n.1) in
    (n.0, n.1, of_fault (fault_behind 0 t e) (sym whole ∙ is))
  where
    of_fault : {k : ℕ} (f : Option ExprFault) → unless_fault f (Settled.Known (Item.Leaf (Atom.Number k) ∷ [])) ≡ Ok s → s ≡ Settled.Known (Item.Leaf (Atom.Number k) ∷ [])
    of_fault None good = cc
    of_fault (Some why) bad = cc
