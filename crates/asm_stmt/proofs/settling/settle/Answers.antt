use Rattle.std.proofs.Common.{arith, subst}
use Rattle.std.proofs.lemmas.List.{length-map}
use Rattle.std.proofs.Math.ListN.{get_or-map}
use Rattle.asm_spell.specs.Line.{value_of}
use Rattle.asm_stmt.specs.Made.{ValueDefined}
use Rattle.asm_stmt.proofs.settling.settle.Goals as goal

pub bytes-requires : goal.bytes-requires
bytes-requires c = λ k d h.
    let xs = c.deref-in-Bytes.result.now in
    let all = (rw (c.in-Bytes.is, ← c.deref-in-Bytes.ensures.value) at c.requires) in
    subst (ValueDefined c.args.names.now) (get_or-map value_of xs k d) (all k (value_of d) (omega (arith, h, length-map xs value_of)))
