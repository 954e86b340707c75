use Rattle.std.proofs.Common.{◌≡◌, ◌+◌, drop, length}
use Rattle.std.specs.Vec.Iter.{into_iter_items, into_iter_len}
use Rattle.asm_names.specs.Layout.{layout_of}
use Rattle.asm_module.proofs.Modules.In_order.{Goes}
use Rattle.asm_module.proofs.statements.stating.state_lines.Given as goal

-- The lines that are left come after those that were read.
abbrev pub invariant-loop-line : goal.invariant-loop-line
invariant-loop-line l =
    (into_iter_items l.line-iterator ≡ drop l.at l.fn.lines.items) × (into_iter_len l.line-iterator + l.at ≡ length l.fn.lines.items)
    × Goes l.grow l.table l.fn.names (layout_of l.layout) l.fn.lines.items l.at l.names l.stated
