use Rattle.std.proofs.Common.{◌≡◌, ◌+◌, slice_index, ap, ◌∙◌, ◌++◌, ◌∷◌, [], arith}
use Rattle.std.proofs.lemmas.Option.{slice_get-get_or}
use Rattle.relax.specs.declared.shape.Statement.TheVariants.{Fixed}
use Rattle.relax.specs.Choice.{chosen, place}
use Rattle.relax.proofs.Places.{bytes-zero, place-next}
use Rattle.zlink.proofs.Files.Tables.{table-push}
use Rattle.zlink.proofs.file.layout.places_of.Goals as goal

pub loop-k-init : goal.loop-k-init
loop-k-init c =
    let zero = bytes-zero (chosen c.args.long.now) c.args.statements.now in
    record {
      len = omega (arith, c.in_ok-push.ensures.len, c.in_ok-places.ensures.len);
      next = omega (arith, zero);
      small = omega arith;
      each = λ j le. let first : j ≡ 0 = omega arith in
          rw first (ap (λ l. slice_index l 0) (c.in_ok-push.ensures.items ∙ ap (λ l. l ++ 256 ∷ []) c.in_ok-places.ensures.items) ∙ omega (arith, zero));
    }

pub loop-k-preserved : goal.loop-k-preserved
loop-k-preserved c =
    let h1 = c.in_ok-push-2.ensures in
    let there = slice_get-get_or c.args.statements.now c.loop-k.k (Fixed 0) (omega arith) in
    let more = place-next (chosen c.args.long.now) c.args.statements.now c.loop-k.k _ there in
    let next : c.loop-k.next + c.size-next.result ≡ place (chosen c.args.long.now) c.args.statements.now (c.loop-k.k + 1) = omega (arith, c.loop-k.invariant.next, c.size-next.ensures.value, more) in
    record {
      len = omega (arith, h1.len, c.loop-k.invariant.len);
      next = next;
      small = omega (arith, c.loop-k.invariant.small, c.size-next.ensures.bound);
      each = table-push (place (chosen c.args.long.now) c.args.statements.now) c.loop-k.places.items _ c.loop-k.k _ (omega (arith, c.loop-k.invariant.len, c.loop-k.places.ok)) next h1.items c.loop-k.invariant.each;
    }
