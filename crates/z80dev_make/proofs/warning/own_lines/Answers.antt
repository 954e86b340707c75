use Rattle.std.proofs.Common.{map, length, ap, ◌∙◌}
use Rattle.std.proofs.lemmas.List.{length-map, with_items_is}
use Rattle.report_texts.specs.Front.{earlier, front_lines}
use Rattle.z80dev_make.proofs.warning.own_lines.Goals as goal

pub returns : goal.returns
returns c =
    let all = front_lines c.args.front in
    let lines = c.number_lines.ensures all c.front_lines.ensures in
    with_items_is c.args.lines c.number_lines.new.numbers (ap length lines ∙ length-map c.deref_mut.result.now (earlier all) ∙ c.deref_mut.ensures.len)
    ∙ lines ∙ ap (map (earlier all)) c.deref_mut.ensures.value
