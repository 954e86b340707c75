use Rattle.std.proofs.Common.{◌≡◌, ◌++◌, List}
use Rattle.asm_macro.specs.Ahead.{Remains, most_left}
use Rattle.asm_macro.specs.Expands.{End}
use Rattle.asm_text.specs.Lines.{Numbered}
use Rattle.asm_macro.specs.Views.{lines_seen}
use Rattle.asm_macro.proofs.whole.collect.Given as goal

-- The lines collected so far, and those still to come, are the whole expansion.
abbrev pub invariant-loop-line : goal.invariant-loop-line
invariant-loop-line l =
    (given : List Numbered) × (lines_seen l.lines.items ≡ lines_seen l.fn.lines.items ++ given)
    × ((more : List Numbered) (end : End) → Remains l.expander.ahead more end → Remains l.fn.expander.ahead (given ++ more) end)

abbrev pub decreases-loop-line : goal.decreases-loop-line
decreases-loop-line l = most_left l.expander.ahead
