use Rattle.std.proofs.Common.{drop}
use Rattle.asm_stmt.specs.Made.{word_cells}
use Rattle.asm_stmt.proofs.Each.{Reads}
use Rattle.asm_stmt.proofs.data.words.Given as goal

abbrev pub invariant-loop-tree : goal.invariant-loop-tree
invariant-loop-tree l = Reads (word_cells l.names) l.fields (drop l.tree-index l.fields) l.laid
