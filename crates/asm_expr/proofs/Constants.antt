-- An expression that contains no address and no external is fixed.
use Rattle.std.proofs.Common.{◌≡◌, ℕ, true, [], ◌∷◌, ◌++◌, Option, Some, None, refl, sym, ◌∙◌}
use Rattle.std.specs.List.{list_all}
use Rattle.std.proofs.lemmas.List.Folds.{list_all-append}
use Rattle.asm_expr.specs.Types.{Item, Meaning, Worth}
use Rattle.asm_parse.specs.Values.Arithmetic.{unary, binary}
use Rattle.asm_parse.specs.Expression.{Expression, Leaf, Prefix, Infix, postfix}
use Rattle.asm_parse.specs.Source.{Operand, Number, Name, Here}
use Rattle.asm_expr.specs.Names.{Table, found}
use Rattle.asm_expr.specs.Settling.{meant, replaced, difference, or_else, through, both, worth, is_constant_name, is_constant_item}
use Rattle.asm_parse.proofs.Judgements.{and_parts}

through_varies : (f : ℕ → ℕ) (w : Worth) → through f w ≡ Worth.Varies → w ≡ Worth.Varies
through_varies f (Worth.Number n) e = cc
through_varies f Worth.Unknown e = cc
through_varies f Worth.Varies e = refl

both_vary : (f : ℕ → ℕ → ℕ) (v w : Worth) → both f v w ≡ Worth.Varies → (v ≡ Worth.Varies → ⊥) → (w ≡ Worth.Varies → ⊥) → ⊥
both_vary f (Worth.Number n) w e hv hw = hw (through_varies (f n) w e)
both_vary f Worth.Unknown (Worth.Number n) e hv hw = cc
both_vary f Worth.Unknown Worth.Unknown e hv hw = cc
both_vary f Worth.Unknown Worth.Varies e hv hw = hw refl
both_vary f Worth.Varies w e hv hw = hv refl

or_varies : (v w : Worth) → or_else v w ≡ Worth.Varies → w ≡ Worth.Varies
or_varies (Worth.Number n) w e = cc
or_varies Worth.Unknown w e = cc
or_varies Worth.Varies w e = e

name_steady : (m : Option Meaning) → is_constant_name m ≡ true → (t : Table) → worth t (meant m) ≡ Worth.Varies → ⊥
name_steady None c t e = cc
name_steady (Some (Meaning.Label s)) c t e = cc
name_steady (Some (Meaning.External r)) c t e = cc
name_steady (Some (Meaning.Constant n)) c t e = cc
name_steady (Some (Meaning.Equ equated)) c t e = cc
name_steady (Some Meaning.UnknownConstant) c t e = cc
name_steady (Some Meaning.Faulty) c t e = cc

pub steady : (t : Table) (n : Expression Operand) → list_all (is_constant_item t) (postfix n) ≡ true → worth t (replaced t n) ≡ Worth.Varies → ⊥
steady t (Leaf (Number k)) c e = cc
steady t (Leaf Here) c e = cc
steady t (Leaf (Name name)) c e = name_steady (found t name) (and_parts _ _ c).0 t e
steady t (Prefix op a) c e =
    let parts = and_parts _ _ (sym (list_all-append (is_constant_item t) (postfix a) (Item.Unary op ∷ [])) ∙ c) in
    steady t a parts.0 (through_varies (unary op) _ e)
steady t (Infix op a b) c e =
    let parts = and_parts _ _ (sym (list_all-append (is_constant_item t) (postfix a ++ postfix b) (Item.Binary op ∷ [])) ∙ c) in
    let sides = and_parts _ _ (sym (list_all-append (is_constant_item t) (postfix a) (postfix b)) ∙ parts.0) in
    both_vary (binary op) _ _ (or_varies (difference t op (replaced t a) (replaced t b)) _ e) (steady t a sides.0) (steady t b sides.1)
