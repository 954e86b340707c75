use Rattle.std.proofs.Common.{◌+◌, ◌∷◌, map, drop, sym, ap, subst, ◌∙◌}
use Rattle.std.proofs.lemmas.List.{drop_more}
use Rattle.asm_spell.specs.Line.{value_of}
use Rattle.asm_stmt.specs.Made.{value_cells}
use Rattle.asm_stmt.proofs.Each.{Reads, reads_step}
use Rattle.asm_stmt.proofs.Making.{flat}
use Rattle.asm_stmt.proofs.data.bytes.Goals as goal

pub loop-value-preserved : goal.loop-value-preserved
loop-value-preserved c =
    let t = c.args.names.now in
    let xs = c.args.values.now in
    let i = c.loop-value.value-index in
    let x = c.value-item.result in
    let r : Reads (value_cells t) (map value_of xs) (value_of x ∷ map value_of (drop (i + 1) xs)) c.loop-value.laid =
    subst (λ ys. Reads (value_cells t) (map value_of xs) (map value_of ys) c.loop-value.laid) (drop_more xs i x c.loop-value-test.true ∙ ap (λ y. y ∷ drop (i + 1) xs) (sym c.value-item.is)) c.loop-value.invariant in
    reads_step (value_cells t) (map value_of xs) (map value_of (drop (i + 1) xs)) (value_of x) c.loop-value.laid c.put_value.new.laid r (c.in_ok-put_value.ensures (flat r.done) r.lays)
