use Rattle.std.proofs.Common.{refl}
use Rattle.std.specs.List.{flat_map}
use Rattle.asm_names.specs.Circles.{names_in}
use Rattle.source_errors.proofs.Loops.{all_there, one_more}
use Rattle.source_errors.proofs.using.put_trees.Goals as goal

pub loop-tree-preserved : goal.loop-tree-preserved
loop-tree-preserved c =
    one_more (λ xs. flat_map names_in xs) (λ x. names_in x) (λ x rest. refl) c.args.trees.now c.loop-tree.tree-index c.tree-item.result _ _ _ c.loop-tree-test.true c.tree-item.is c.in_ok-put_tree.ensures c.loop-tree.invariant

pub returns : goal.returns
returns c = all_there (λ xs. flat_map names_in xs) refl c.args.trees.now c.loop-tree.tree-index _ _ c.loop-tree-test.false c.loop-tree.invariant
