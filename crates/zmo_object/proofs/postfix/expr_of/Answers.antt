use Rattle.std.proofs.Common.{cond, Some, None, ap, sym, ◌∙◌}
use Rattle.std.specs.Option.{option_map, option_and_then}
use Rattle.asm_parse.specs.Private.Steps.{is_expr}
use Rattle.zmo_object.proofs.Fields.Items.{judged_expr}
use Rattle.zmo_object.proofs.postfix.expr_of.Goals as goal

pub returns-in-Some-2 : goal.returns-in-Some-2
returns-in-Some-2 c =
    let found = sym c.in_ok-items.ensures ∙ ap (option_map (λ items. items.items)) c.in-Some-2.is in
    judged_expr c.in-Some-2.items.items c.of.result c.of.ensures ∙ ap (option_and_then (λ items. cond (is_expr items) (Some items) None)) (sym found)

pub returns-in-None : goal.returns-in-None
returns-in-None c =
    let found = sym c.in_ok-items.ensures ∙ ap (option_map (λ items. items.items)) c.in-None.is in
    ap (option_and_then (λ items. cond (is_expr items) (Some items) None)) (sym found)
