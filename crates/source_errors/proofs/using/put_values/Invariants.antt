use Rattle.std.proofs.Common.{◌≡◌, ◌++◌, drop, map}
use Rattle.std.specs.List.{flat_map}
use Rattle.asm_spell.specs.Line.{value_of}
use Rattle.asm_module.specs.Module.Faults.{value_names}
use Rattle.source_errors.proofs.using.put_values.Given as goal

-- What is there and what the other elements add is all.
abbrev pub invariant-loop-value : goal.invariant-loop-value
invariant-loop-value l = map (λ name. name.now) l.all.items ++ flat_map (λ v. value_names (value_of v)) (drop l.value-index l.values) ≡ map (λ name. name.now) l.fn.all.items ++ flat_map (λ v. value_names (value_of v)) l.values
