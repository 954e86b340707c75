use Rattle.std.proofs.Common.{map, sym, ap, ◌∙◌}
use Rattle.std.specs.List.{list_any}
use Rattle.asm_module.specs.Private.Missing.{is_no_label}
use Rattle.asm_module.proofs.Modules.Missing_names.{any_map}
use Rattle.asm_module.proofs.statements.missing.lacks_label.Goals as goal

pub returns-in-Public : goal.returns-in-Public
returns-in-Public c =
    let names = c.args.table.now in
    rw c.in-Public.is (c.one_is_no_label.ensures ∙ sym (any_map (is_no_label names) (λ name. name.items) c.deref.result.now)
    ∙ ap (λ xs. list_any (is_no_label names) (map (λ name. name.items) xs)) c.deref.ensures.value)
