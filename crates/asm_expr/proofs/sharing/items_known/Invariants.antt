use Rattle.std.proofs.Common.{◌≡◌, ◌++◌, drop}
use Rattle.std.specs.List.{flat_map}
use Rattle.std.specs.Option.{option_map}
use Rattle.asm_parse.specs.Values.Kept.{items_in}
use Rattle.asm_expr.specs.Settling.{items_known}
use Rattle.asm_expr.specs.Private.Cells.{opened}
use Rattle.asm_expr.proofs.sharing.items_known.Given as goal

abbrev pub invariant-loop-cell : goal.invariant-loop-cell
invariant-loop-cell l = option_map (λ others. l.known.items ++ others) (items_known (flat_map opened (drop l.cell-index l.cells))) ≡ items_known (flat_map opened l.cells)
