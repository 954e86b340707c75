-- The answers for an expression depend only on the names in it, on `$`, and on the statements.
use Rattle.std.proofs.Common.{◌≡◌, ℕ, [], ◌∷◌, ◌++◌, if◌then◌else◌, refl, ap, ◌∙◌, arith}
use Rattle.std.specs.List.{list_all}
use Rattle.std.proofs.lemmas.List.Elements.{Contains-append_left, Contains-append_right}
use Rattle.asm_expr.specs.Types.{Item, Binary}
use Rattle.asm_expr.specs.declared.part.Part.{Part}
use Rattle.asm_expr.specs.declared.single.Single.{Single}
use Rattle.asm_parse.specs.Values.Arithmetic.{unary, binary}
use Rattle.asm_parse.specs.Expression.{Expression, Leaf, Prefix, Infix, postfix}
use Rattle.asm_parse.specs.Source.{Operand, Number, Name, Here}
use Rattle.asm_expr.specs.Names.{Table, found}
use Rattle.asm_expr.specs.Origins.{AgreeOn}
use Rattle.asm_expr.specs.Offsets.{offset_after_here, constant_behind, offset}
use Rattle.asm_expr.specs.declared.here.Offset.{Offset}
use Rattle.asm_expr.specs.Settling.{both, difference, distance_of, is_constant_item, is_constant_name, meant, or_else, replaced, settled, single, size_meant, through, worth}
use Rattle.asm_expr.specs.Distances.{distance, some_distance}
use Rattle.asm_expr.specs.Equating.{equated}
use Rattle.asm_expr.proofs.Alike.{AreAlike, equated_alike, same_constant, same_replaced, settled_alike}
use Rattle.asm_expr.proofs.Origins.{Places}

abbrev pub Anything : ℕ → Type 0
Anything r = Unit {0}

-- each ref of an expression has the property that holds for all
pub all_places : (e : Expression Part) → Places Anything e
all_places (Leaf (Part.Number n)) = tt
all_places (Leaf (Part.Ref r)) = tt
all_places (Leaf (Part.Unknown what)) = tt
all_places (Prefix op a) = all_places a
all_places (Infix op a b) = (all_places a, all_places b)

module _ (t u : Table) (same : t.statements ≡ u.statements) where
  apart : (x y : Single) → distance_of t x y ≡ distance_of u x y
  apart (Single.Place p) (Single.Place q) = ap (λ s. distance s p q) same
  apart (Single.Place p) Single.Anything = ap (λ s. some_distance s p) same
  apart (Single.Place p) Single.Other = refl
  apart Single.Anything (Single.Place q) = ap (λ s. some_distance s q) same
  apart Single.Anything Single.Anything = refl
  apart Single.Anything Single.Other = refl
  apart Single.Other y = refl

  differ : (op : Binary) (a b : Expression Part) → difference t op a b ≡ difference u op a b
  differ Binary.Subtract a b = apart (single a) (single b)
  differ op a b = refl

  pub weigh : (e : Expression Part) → Places Anything e → worth t e ≡ worth u e
  weigh (Leaf (Part.Number n)) p = refl
  weigh (Leaf (Part.Ref r)) p = refl
  weigh (Leaf (Part.Unknown what)) p = refl
  weigh (Prefix op a) p = ap (through (unary op)) (weigh a p)
  weigh (Infix op a b) p =
      ap (λ d. or_else d (both (binary op) (worth t a) (worth t b))) (differ op a b)
      ∙ ap (λ w. or_else (difference u op a b) (both (binary op) w (worth t b))) (weigh a p.0)
      ∙ ap (λ w. or_else (difference u op a b) (both (binary op) (worth u a) w)) (weigh b p.1)

alike : (t u : Table) (e : Expression Operand) → AgreeOn (postfix e) t u → AreAlike t u Anything e
alike t u (Leaf (Number n)) agree = record { part = refl; size = refl; constant = refl; places = tt }
alike t u (Leaf Here) agree = record { part = ap (λ here. Leaf (Part.Ref here)) agree.here; size = refl; constant = refl; places = tt }
alike t u (Leaf (Name name)) agree =
    let same : found t name ≡ found u name = agree.names name (0, omega arith, refl) in
    record { part = ap meant same; size = ap size_meant same; constant = ap is_constant_name same; places = all_places (meant (found u name)) }
alike t u (Prefix op a) agree = alike t u a (record { here = agree.here; statements = agree.statements; names = λ name among. agree.names name (Contains-append_left (postfix a) (Item.Unary op ∷ []) _ among) })
alike t u (Infix op a b) agree = (
  alike t u a (record { here = agree.here; statements = agree.statements; names = λ name among. agree.names name (Contains-append_left (postfix a ++ postfix b) (Item.Binary op ∷ []) _ (Contains-append_left (postfix a) (postfix b) _ among)) }),
  alike t u b (record { here = agree.here; statements = agree.statements; names = λ name among. agree.names name (Contains-append_left (postfix a ++ postfix b) (Item.Binary op ∷ []) _ (Contains-append_right (postfix a) (postfix b) _ among)) }),
)

pub settled_by_names : (t u : Table) (e : Expression Operand) → AgreeOn (postfix e) t u → settled t e ≡ settled u e
settled_by_names t u e agree = settled_alike t u Anything (weigh t u agree.statements) e (alike t u e agree)

pub equated_by_names : (t u : Table) (e : Expression Operand) → AgreeOn (postfix e) t u → equated t e ≡ equated u e
equated_by_names t u e agree = equated_alike t u Anything (weigh t u agree.statements) e (alike t u e agree)

pub constant_by_names : (t u : Table) (e : Expression Operand) → AgreeOn (postfix e) t u → list_all (is_constant_item t) (postfix e) ≡ list_all (is_constant_item u) (postfix e)
constant_by_names t u e agree = same_constant t u Anything (weigh t u agree.statements) e (alike t u e agree)

-- Two tables that agree on an operand with `$` agree on what it says.
behind_here : (t u : Table) (op : Binary) (n : Expression Operand) → AgreeOn (postfix (Infix op (Leaf Here) n)) t u → constant_behind t op n ≡ constant_behind u op n
behind_here t u op n agree =
    ap (λ b. if b then offset_after_here op (worth t (replaced t n)) else Offset.NotConstant) (constant_by_names t u n right)
    ∙ ap (λ w. if list_all (is_constant_item u) (postfix n) then offset_after_here op w else Offset.NotConstant)
    (ap (worth t) (same_replaced t u Anything (weigh t u agree.statements) n (alike t u n right)) ∙ weigh t u agree.statements (replaced u n) (all_places (replaced u n)))
  where
    right : AgreeOn (postfix n) t u
    right = record {
      here = agree.here;
      statements = agree.statements;
      names = λ name among. agree.names name (Contains-append_left (Item.Leaf Here ∷ postfix n) (Item.Binary op ∷ []) _ (Contains-append_right (Item.Leaf Here ∷ []) (postfix n) _ among));
    }

pub offset_by_names : (t u : Table) (e : Expression Operand) → AgreeOn (postfix e) t u → offset t e ≡ offset u e
offset_by_names t u (Leaf Here) agree = refl
offset_by_names t u (Infix Binary.Add (Leaf Here) n) agree = behind_here t u Binary.Add n agree
offset_by_names t u (Infix Binary.Subtract (Leaf Here) n) agree = behind_here t u Binary.Subtract n agree
offset_by_names t u e agree = refl
