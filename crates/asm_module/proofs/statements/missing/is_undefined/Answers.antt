use Rattle.std.proofs.Common.{map, sym, ap, ◌∙◌}
use Rattle.std.specs.List.{list_any}
use Rattle.asm_parse.specs.Few.{all}
use Rattle.asm_spell.specs.Line.{value_of}
use Rattle.asm_names.specs.Circles.{names_in}
use Rattle.asm_module.specs.Module.Faults.{value_names}
use Rattle.asm_module.specs.Private.Missing.{is_missing, tree_misses, value_misses}
use Rattle.asm_module.proofs.Modules.Missing_names.{any_flat_map, any_map}
use Rattle.asm_module.proofs.statements.missing.is_undefined.Goals as goal

pub returns-in-Code : goal.returns-in-Code
returns-in-Code c =
    let names = c.args.table.now in
    rw c.in-Code.is (c.numbers_miss.ensures ∙ ap (list_any (λ n. tree_misses names n.1)) c.as_slice.ensures
    ∙ sym (any_flat_map (is_missing names) (λ n. names_in n.1) (all c.in-Code.numbers)))

pub returns-in-Bytes : goal.returns-in-Bytes
returns-in-Bytes c =
    let names = c.args.table.now in
    rw c.in-Bytes.is (c.values_miss.ensures ∙ sym (any_map (value_misses names) value_of c.deref-in-Bytes.result.now)
    ∙ ap (λ xs. list_any (value_misses names) (map value_of xs)) c.deref-in-Bytes.ensures.value
    ∙ sym (any_flat_map (is_missing names) value_names (map value_of c.in-Bytes.values.items)))

pub returns-in-Words : goal.returns-in-Words
returns-in-Words c =
    let names = c.args.table.now in
    rw c.in-Words.is (c.fields_miss.ensures ∙ ap (list_any (tree_misses names)) c.deref-in-Words.ensures.value
    ∙ sym (any_flat_map (is_missing names) names_in c.in-Words.fields.items))

pub returns-in-Public : goal.returns-in-Public
returns-in-Public c =
    let names = c.args.table.now in
    rw c.in-Public.is (c.names_miss.ensures ∙ sym (any_map (is_missing names) (λ name. name.items) c.deref-in-Public.result.now)
    ∙ ap (λ xs. list_any (is_missing names) (map (λ name. name.items) xs)) c.deref-in-Public.ensures.value)
