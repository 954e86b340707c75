use Rattle.std.proofs.Common.{◌+◌, ◌∷◌, drop, sym, ap, subst, ◌∙◌}
use Rattle.std.proofs.lemmas.List.{drop_more}
use Rattle.asm_stmt.specs.Made.{word_cells}
use Rattle.asm_stmt.proofs.Each.{Reads, reads_step}
use Rattle.asm_stmt.proofs.Making.{flat}
use Rattle.asm_stmt.proofs.data.words.Goals as goal

pub loop-tree-preserved : goal.loop-tree-preserved
loop-tree-preserved c =
    let t = c.args.names.now in
    let xs = c.args.fields.now in
    let i = c.loop-tree.tree-index in
    let x = c.tree-item.result in
    let r : Reads (word_cells t) xs (x ∷ drop (i + 1) xs) c.loop-tree.laid =
    subst (λ ys. Reads (word_cells t) xs ys c.loop-tree.laid) (drop_more xs i x c.loop-tree-test.true ∙ ap (λ y. y ∷ drop (i + 1) xs) (sym c.tree-item.is)) c.loop-tree.invariant in
    reads_step (word_cells t) xs (drop (i + 1) xs) x c.loop-tree.laid c.put_cell.new.laid r (c.in_ok-put_cell.ensures (flat r.done) r.lays)
