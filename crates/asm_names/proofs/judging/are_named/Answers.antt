use Rattle.std.proofs.Common.{sym, ap, ◌∙◌}
use Rattle.std.specs.List.{list_all}
use Rattle.std.proofs.lemmas.List.Folds.{list_all-map}
use Rattle.asm_parse.specs.Source.{source_item}
use Rattle.asm_names.specs.Private.Judged.{is_named}
use Rattle.asm_names.proofs.judging.are_named.Goals as goal

pub returns : goal.returns
returns c =
    let names = c.args.names.now in
    c.all_named.ensures ∙ sym (list_all-map (is_named names) source_item c.items.result.now) ∙ ap (list_all (is_named names)) c.items.ensures.items
