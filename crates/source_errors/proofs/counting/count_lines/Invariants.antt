use Rattle.std.proofs.Common.{◌≡◌, length}
use Rattle.std.specs.Vec.Iter.{into_iter_items, into_iter_len}
use Rattle.asm_macro.specs.Views.{lines_seen}
use Rattle.source_errors.proofs.Taking.{Goes}
use Rattle.source_errors.proofs.counting.count_lines.Given as goal

-- The lines so far, with those that are left, are all lines.
abbrev pub invariant-loop-line : goal.invariant-loop-line
invariant-loop-line l = (into_iter_len l.line-iterator ≡ length (into_iter_items l.line-iterator))
    × Goes (lines_seen l.fn.expanded.lines.items) (lines_seen (into_iter_items l.line-iterator)) l.counting
