use Rattle.std.proofs.Common.{◌++◌, ◌∙◌, ap, drop, length, replicate}
use Rattle.std.proofs.lemmas.List.{drop-replicate}
use Rattle.z80dev_disk.proofs.putting.filled.Goals as goal

pub returns : goal.returns
returns c = ap (λ xs. xs ++ drop (length c.args.piece.now) (replicate 128 0x1A)) c.copy_from_slice.ensures.after ∙ ap (λ ys. c.args.piece.now ++ ys) (drop-replicate (length c.args.piece.now) 128 0x1A)
