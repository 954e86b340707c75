use Rattle.std.proofs.Common.{map, sym, ap, ◌∙◌}
use Rattle.std.specs.List.{list_all}
use Rattle.std.proofs.lemmas.List.Folds.{list_all-map}
use Rattle.asm_spell.specs.Line.{value_of}
use Rattle.asm_stmt.specs.Private.Defined.{value_defined}
use Rattle.asm_stmt.proofs.defined.operands_defined.Goals as goal

pub returns-in-Bytes : goal.returns-in-Bytes
returns-in-Bytes c =
    let p = value_defined c.args.names.now in
    rw c.in-Bytes.is (c.values_defined.ensures ∙ sym (list_all-map p value_of c.deref-in-Bytes.result.now) ∙ ap (λ xs. list_all p (map value_of xs)) c.deref-in-Bytes.ensures.value)
