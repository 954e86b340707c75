use Rattle.std.proofs.Common.{◌≡◌, ◌++◌, drop}
use Rattle.std.specs.List.{flat_map}
use Rattle.asm_parse.specs.Values.Kept.{items_in}
use Rattle.asm_parse.proofs.values.kept.joined.Given as goal

abbrev pub invariant-loop-piece : goal.invariant-loop-piece
invariant-loop-piece l = l.items.items ++ flat_map items_in (drop l.piece-index l.pieces) ≡ flat_map items_in l.pieces
