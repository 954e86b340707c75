use Rattle.std.proofs.Common.{◌≡◌, [], false, length, slice_index, sym, ap, ◌∙◌, arith}
use Rattle.std.specs.List.{list_any}
use Rattle.asm_parse.specs.Values.Items.{IsExpr, is_ref}
use Rattle.asm_parse.proofs.Judgements.{is_constant, no_refs, some_ref}
use Rattle.asm_parse.proofs.values.expr.constant.Goals as goal

pub value-requires : goal.value-requires
value-requires c =
    let none : list_any is_ref c.args.expr.now ≡ false = ap (list_any is_ref) (sym c.items.ensures.items) ∙ sym c.if-has_ref.ensures in
    λ k d h. let e = ap length (no_refs c.args.expr.now none) in absurd (omega (arith, e, h))

pub returns-then-has_ref : goal.returns-then-has_ref
returns-then-has_ref c = some_ref c.args.expr.now (ap (list_any is_ref) (sym c.items.ensures.items) ∙ sym c.if-has_ref.ensures)

pub returns-else-has_ref : goal.returns-else-has_ref
returns-else-has_ref c =
    let none : list_any is_ref c.args.expr.now ≡ false = ap (list_any is_ref) (sym c.items.ensures.items) ∙ sym c.if-has_ref.ensures in
    let expr : IsExpr c.args.expr.now = c.items.ensures.expr in
    is_constant c.args.expr.now (λ r. slice_index [] r) c.value.result expr none c.value.ensures
