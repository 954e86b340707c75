use Rattle.std.proofs.Common.{◌≡◌, ◌+◌, ◌∙◌, arith}
use Rattle.std.proofs.lemmas.List.{length-set, get_or_read}
use Rattle.relax.specs.declared.shape.Statement.TheVariants.{Fixed}
use Rattle.relax.specs.Choice.{chosen, size_at}
use Rattle.relax.proofs.Places.{bytes-next}
use Rattle.relax.proofs.Sizes.{bytes-bound, size-read}
use Rattle.program_map.proofs.Reasoned.Members.{places-first, places-more}
use Rattle.program_map.proofs.reasons.places.bytes_before.Goals as goal

pub loop-k-init : goal.loop-k-init
loop-k-init c =
    let zeros = c.in_ok-places.ensures.items_if_clones_equal (λ y e. e) in
    let len = c.in_ok-places.ensures.len in
    record {
      len = omega (arith, len);
      each = places-first (chosen c.args.long.now) c.args.statements.now _ _ zeros (omega arith);
    }

pub overflow_add-index : goal.overflow_add-index
overflow_add-index c =
    let long = chosen c.args.long.now in
    let size : c.size.result ≡ size_at long c.args.statements.now c.loop-k.k = rw (size-read long c.args.statements.now c.loop-k.k (Fixed 0) (omega arith)) c.size.ensures.value in
    let at = get_or_read c.loop-k.places.items c.loop-k.k c.index.result.now (omega arith) c.index.ensures 0 in
    let here = c.loop-k.invariant.each c.loop-k.k (omega arith) in
    let next = bytes-next long c.args.statements.now c.loop-k.k in
    let bound = bytes-bound long c.args.statements.now c.requires.shape (c.loop-k.k + 1) in
    omega arith

pub loop-k-preserved : goal.loop-k-preserved
loop-k-preserved c =
    let long = chosen c.args.long.now in
    let size : c.size.result ≡ size_at long c.args.statements.now c.loop-k.k = rw (size-read long c.args.statements.now c.loop-k.k (Fixed 0) (omega arith)) c.size.ensures.value in
    let at = get_or_read c.loop-k.places.items c.loop-k.k c.index.result.now (omega arith) c.index.ensures 0 in
    record {
      len = length-set c.loop-k.places.items (c.loop-k.k + 1) (c.index.result.now + c.size.result) ∙ c.loop-k.invariant.len;
      each = places-more long _ _ c.loop-k.k _ _ (omega arith) c.loop-k.invariant.len c.loop-k.invariant.each at size;
    }
