use Rattle.std.proofs.Common.{◌≡◌, ◌∙◌, ap, sym, [], ◌∷◌, Ok}
use Rattle.asm_parse.specs.declared.item.Item.{Item}
use Rattle.asm_expr.specs.Below.{Atom}
use Rattle.asm_expr.specs.Below.{value}
use Rattle.asm_expr.specs.Below.{tree}
use Rattle.asm_macro.proofs.constants.number_in.Goals as goal

pub returns-in-Some : goal.returns-in-Some
returns-in-Some c = λ n e.
    let items : c.in-Known.expr ≡ Item.Leaf (Atom.Number n) ∷ [] = cc in
    ap Ok (sym (c.in-Some.ensures.1 (λ p. 0)) ∙ ap (λ xs. value (λ p. 0) (tree xs)) items)
