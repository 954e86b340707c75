use Rattle.std.proofs.Common.{◌≡◌, ◌≤◌, ◌++◌, length, drop, take}
use Rattle.std.specs.List.{flat_map}
use Rattle.asm_parse.specs.Values.Kept.{items_in}
use Rattle.asm_parse.specs.declared.values.expr.TheConstants.{MOST_ITEMS}
use Rattle.asm_parse.proofs.values.kept.gather.Given as goal

abbrev pub invariant-loop-piece : goal.invariant-loop-piece
invariant-loop-piece l = (take l.len l.room.items ++ flat_map items_in (drop l.piece-index l.pieces) ≡ flat_map items_in l.pieces) × (l.len ≤ MOST_ITEMS) × (length l.room.items ≡ MOST_ITEMS)
