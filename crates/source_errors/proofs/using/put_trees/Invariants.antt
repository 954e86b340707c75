use Rattle.std.proofs.Common.{◌≡◌, ◌++◌, drop, map}
use Rattle.std.specs.List.{flat_map}
use Rattle.asm_names.specs.Circles.{names_in}
use Rattle.source_errors.proofs.using.put_trees.Given as goal

-- What is there and what the other elements add is all.
abbrev pub invariant-loop-tree : goal.invariant-loop-tree
invariant-loop-tree l = map (λ name. name.now) l.all.items ++ flat_map names_in (drop l.tree-index l.trees) ≡ map (λ name. name.now) l.fn.all.items ++ flat_map names_in l.trees
