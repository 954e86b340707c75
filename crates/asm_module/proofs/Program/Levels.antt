-- An expression whose names stand for values is one of known parts once its names are replaced.
use Rattle.std.proofs.Common.{◌≡◌, ◌∙◌, sym, ap, refl, Bool, true, false, ◌&&◌, [], ◌∷◌, ◌++◌, Option, Some, None}
use Rattle.std.specs.List.{list_all}
use Rattle.std.proofs.lemmas.List.Folds.{list_all-append}
use Rattle.asm_parse.specs.declared.item.Item.{Item}
use Rattle.asm_parse.specs.Expression.{Expression, Leaf, Prefix, Infix, postfix}
use Rattle.asm_parse.specs.Source.{Operand, Number, Name, Here}
use Rattle.asm_expr.specs.declared.answer.Settled.{Settled}
use Rattle.asm_expr.specs.declared.meaning.Meaning.{Meaning}
use Rattle.asm_expr.specs.Names.{Table, found}
use Rattle.asm_expr.specs.Origins.{is_value, is_valued_item, is_valued_name}
use Rattle.asm_expr.specs.Settling.{known, meant, replaced, standing}
use Rattle.asm_module.specs.Program.Statement.{meant_expression, of_settled, with_meant}

first_passes : (a b : Bool) → (a && b) ≡ true → a ≡ true
first_passes true b is = refl
first_passes false b is = is

second_passes : (a b : Bool) → (a && b) ≡ true → b ≡ true
second_passes true b is = is
second_passes false b is = cc

settled_known : (s : Settled) → is_value s ≡ true → standing s ≡ known (of_settled s)
settled_known (Settled.Known items) is = refl
settled_known (Settled.Unknown what) is = cc

name_known : (m : Option Meaning) → is_valued_name m ≡ true → meant m ≡ known (meant_expression m)
name_known (Some (Meaning.Label statement)) is = refl
name_known (Some (Meaning.External ref)) is = refl
name_known (Some (Meaning.Constant n)) is = refl
name_known (Some (Meaning.Equ equated)) is = settled_known equated.settled is
name_known (Some Meaning.UnknownConstant) is = cc
name_known (Some Meaning.Faulty) is = cc
name_known None is = cc

pub replaced_known : (t : Table) (e : Expression Operand) → list_all (is_valued_item t) (postfix e) ≡ true → replaced t e ≡ known (with_meant t e)
replaced_known t (Leaf (Number n)) is = refl
replaced_known t (Leaf Here) is = refl
replaced_known t (Leaf (Name name)) is = name_known (found t name) (first_passes (is_valued_name (found t name)) true is)
replaced_known t (Prefix op a) is =
    let all = sym (list_all-append (is_valued_item t) (postfix a) (Item.Unary op ∷ [])) ∙ is in
    ap (λ x. Prefix op x) (replaced_known t a (first_passes (list_all (is_valued_item t) (postfix a)) (list_all (is_valued_item t) (Item.Unary op ∷ [])) all))
replaced_known t (Infix op a b) is =
    let all = sym (list_all-append (is_valued_item t) (postfix a ++ postfix b) (Item.Binary op ∷ [])) ∙ is in
    let operands = sym (list_all-append (is_valued_item t) (postfix a) (postfix b)) ∙ first_passes (list_all (is_valued_item t) (postfix a ++ postfix b)) (list_all (is_valued_item t) (Item.Binary op ∷ [])) all in
    ap (λ x. Infix op x (replaced t b)) (replaced_known t a (first_passes (list_all (is_valued_item t) (postfix a)) (list_all (is_valued_item t) (postfix b)) operands))
    ∙ ap (λ x. Infix op (known (with_meant t a)) x) (replaced_known t b (second_passes (list_all (is_valued_item t) (postfix a)) (list_all (is_valued_item t) (postfix b)) operands))
