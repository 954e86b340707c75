use Rattle.std.proofs.Common.{rules, ◌≡◌, ◌≤◌, ◌++◌, ◌+◌, length, take, drop, get_or, ◌-◌, sym, ap, ◌∙◌, arith}
use Rattle.std.proofs.lemmas.List.{length-take-le}
use Rattle.std.proofs.lemmas.Slice.{take-put_mid, overwrites}
use Rattle.std.specs.List.{flat_map}
use Rattle.asm_parse.specs.Values.Kept.{items_in}
use Rattle.asm_parse.proofs.Gathered.{next_piece, fits_next}
use Rattle.asm_parse.proofs.values.kept.gather.Goals as goal

pub overflow_add-len : goal.overflow_add-len
overflow_add-len c =
    let few = fits_next items_in c.args.pieces.now c.loop-piece.piece-index c.piece-item.result (take c.loop-piece.len c.loop-piece.room.items) c.loop-piece.invariant.0 c.loop-piece-test.true in
    let len = length-take-le c.loop-piece.len c.loop-piece.room.items (omega (arith, c.loop-piece.invariant.1)) in
    let piece = ap length c.items-items.ensures ∙ ap (λ p. length (items_in p)) c.piece-item.is in
    omega (arith, few, len, piece, c.requires)

pub loop-piece-preserved : goal.loop-piece-preserved
loop-piece-preserved c =
    let xs = c.loop-piece.room.items in
    let within : c.loop-piece.len ≤ length xs = omega (arith, c.loop-piece.invariant.1) in
    let few = fits_next items_in c.args.pieces.now c.loop-piece.piece-index c.piece-item.result (take c.loop-piece.len xs) c.loop-piece.invariant.0 c.loop-piece-test.true in
    let len = length-take-le c.loop-piece.len xs within in
    let same : c.items-items.result.now ≡ items_in (get_or c.args.pieces.now c.loop-piece.piece-index c.piece-item.result) = c.items-items.ensures ∙ ap items_in c.piece-item.is in
    let written = take-put_mid c.loop-piece.len (c.loop-piece.len + length c.items-items.result.now - c.loop-piece.len) xs c.copy_from_slice.new.self
    (c.loop-piece.len + length c.items-items.result.now) (ap (λ ys. c.loop-piece.len + length ys) (sym c.copy_from_slice.ensures.after)) within in (
      ap (λ front. front ++ flat_map items_in (drop (c.loop-piece.piece-index + 1) c.args.pieces.now))
          (written ∙ ap (λ ys. take c.loop-piece.len xs ++ ys) (c.copy_from_slice.ensures.after ∙ same))
          ∙ next_piece items_in c.args.pieces.now c.loop-piece.piece-index c.piece-item.result (take c.loop-piece.len xs) c.loop-piece.invariant.0 c.loop-piece-test.true,
      omega (arith, few, len, ap length same, c.requires),
      search (rules, overwrites),
    )
