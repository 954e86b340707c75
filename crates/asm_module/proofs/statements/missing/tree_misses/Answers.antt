use Rattle.std.proofs.Common.{sym, ap, ◌∙◌}
use Rattle.std.specs.List.{list_any}
use Rattle.asm_parse.specs.Source.{source_item}
use Rattle.asm_module.specs.Private.Missing.{item_misses}
use Rattle.asm_module.proofs.Modules.Missing_names.{any_map, of_items}
use Rattle.asm_module.proofs.statements.missing.tree_misses.Goals as goal

pub returns : goal.returns
returns c =
    let names = c.args.table.now in
    c.items_miss.ensures ∙ sym (any_map (item_misses names) source_item c.items.result.now) ∙ ap (list_any (item_misses names)) c.items.ensures.items ∙ of_items names c.args.tree.now
