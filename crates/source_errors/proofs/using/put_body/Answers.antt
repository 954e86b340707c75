use Rattle.std.proofs.Common.{◌∙◌, ◌++◌, ap, map, sym}
use Rattle.std.specs.List.{flat_map}
use Rattle.std.proofs.lemmas.Result.{on_ok_weaker}
use Rattle.asm_spell.specs.Line.{body_of, value_of}
use Rattle.asm_module.specs.Module.Faults.{used, value_names}
use Rattle.source_errors.proofs.Loops.{flat_of_map}
use Rattle.source_errors.proofs.using.put_body.Goals as goal

pub returns-in-Bytes : goal.returns-in-Bytes
returns-in-Bytes c =
    on_ok_weaker c.put_values.result
    (λ is. is ∙ ap (λ ys. map (λ name. name.now) c.args.all.now.items ++ ys)
    (ap (flat_map (λ v. value_names (value_of v))) c.deref-in-Bytes.ensures.value ∙ sym (flat_of_map value_names value_of c.in-Bytes.values.items) ∙ ap (λ b. used (body_of b)) (sym c.in-Bytes.is)))
    c.put_values.ensures
