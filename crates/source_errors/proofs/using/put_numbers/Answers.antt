use Rattle.std.proofs.Common.{refl}
use Rattle.std.specs.List.{flat_map}
use Rattle.asm_names.specs.Circles.{names_in}
use Rattle.source_errors.proofs.Loops.{all_there, one_more}
use Rattle.source_errors.proofs.using.put_numbers.Goals as goal

pub loop-number-preserved : goal.loop-number-preserved
loop-number-preserved c =
    one_more (λ xs. flat_map (λ n. names_in n.1) xs) (λ x. names_in x.1) (λ x rest. refl) c.args.numbers.now c.loop-number.number-index c.number-item.result _ _ _ c.loop-number-test.true c.number-item.is c.in_ok-put_tree.ensures c.loop-number.invariant

pub returns : goal.returns
returns c = all_there (λ xs. flat_map (λ n. names_in n.1) xs) refl c.args.numbers.now c.loop-number.number-index _ _ c.loop-number-test.false c.loop-number.invariant
