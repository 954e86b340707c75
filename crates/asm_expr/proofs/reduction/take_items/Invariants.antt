use Rattle.std.proofs.Common.{◌≡◌, ◌≤◌, ◌+◌, List, map, length}
use Rattle.asm_expr.specs.declared.part.Part.{Part}
use Rattle.asm_parse.specs.Expression.{Expression}
use Rattle.asm_parse.specs.Values.Postfix.{spread}
use Rattle.asm_expr.specs.Settling.{known_item}
use Rattle.asm_expr.proofs.Steps.{Folded, Room}
use Rattle.asm_expr.proofs.reduction.take_items.Given as goal

abbrev pub invariant-loop-item : goal.invariant-loop-item
invariant-loop-item l = Room (map known_item l.items) l.item-index (length l.out)
    × ((before : List (Expression Part)) → l.fn.out ≡ spread before → Folded l.names (map known_item l.items) before l.item-index l.out)
    × (length l.out ≤ length l.fn.out + l.item-index)
