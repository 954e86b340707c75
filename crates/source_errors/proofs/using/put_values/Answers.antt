use Rattle.std.proofs.Common.{refl}
use Rattle.std.specs.List.{flat_map}
use Rattle.asm_spell.specs.Line.{value_of}
use Rattle.asm_module.specs.Module.Faults.{value_names}
use Rattle.source_errors.proofs.Loops.{all_there, one_more}
use Rattle.source_errors.proofs.using.put_values.Goals as goal

pub loop-value-preserved : goal.loop-value-preserved
loop-value-preserved c =
    one_more (λ xs. flat_map (λ v. value_names (value_of v)) xs) (λ x. value_names (value_of x)) (λ x rest. refl) c.args.values.now c.loop-value.value-index c.value-item.result _ _ _ c.loop-value-test.true c.value-item.is c.in_ok-put_value.ensures c.loop-value.invariant

pub returns : goal.returns
returns c = all_there (λ xs. flat_map (λ v. value_names (value_of v)) xs) refl c.args.values.now c.loop-value.value-index _ _ c.loop-value-test.false c.loop-value.invariant
