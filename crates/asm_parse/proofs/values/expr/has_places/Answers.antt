use Rattle.std.proofs.Common.{sym, ap, ◌∙◌}
use Rattle.std.specs.List.{list_all}
use Rattle.asm_parse.specs.Values.Items.{is_within}
use Rattle.asm_parse.proofs.Refs.{all_below, below_all}
use Rattle.asm_parse.proofs.values.expr.has_places.Goals as goal

pub returns-in-Some : goal.returns-in-Some
returns-in-Some c =
    let same = c.are_within.ensures ∙ ap (list_all (is_within c.args.count)) c.in-Some.ensures.0 in
    (λ holds. all_below c.args.count c.args.expr.now (sym same ∙ holds), λ all. same ∙ below_all c.args.count c.args.expr.now all)

pub returns-in-None : goal.returns-in-None
returns-in-None c =
    let same = c.are_within_gathered.ensures in
    (λ holds. all_below c.args.count c.args.expr.now (sym same ∙ holds), λ all. same ∙ below_all c.args.count c.args.expr.now all)
