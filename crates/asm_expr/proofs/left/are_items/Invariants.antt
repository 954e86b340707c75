use Rattle.std.proofs.Common.{◌≡◌, ◌≤◌, ◌-◌, length, map, take}
use Rattle.std.specs.List.{flat_map}
use Rattle.asm_expr.specs.Settling.{known_item}
use Rattle.asm_expr.specs.Private.Cells.{opened}
use Rattle.asm_expr.proofs.left.are_items.Given as goal

abbrev pub invariant-loop-at : goal.invariant-loop-at
invariant-loop-at l = (l.at ≤ length l.items) × (flat_map opened (take l.at l.cells) ≡ map known_item (take l.at l.items))

abbrev pub decreases-loop-at : goal.decreases-loop-at
decreases-loop-at l = length l.items - l.at
