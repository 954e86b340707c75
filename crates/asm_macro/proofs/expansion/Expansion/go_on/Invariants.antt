use Rattle.std.proofs.Common.{◌≤◌, List}
use Rattle.asm_text.specs.Lines.{Numbered}
use Rattle.asm_macro.specs.Expands.{End}
use Rattle.asm_macro.specs.Ahead.{Remains, Within}
use Rattle.asm_macro.specs.Kept.{AreOf}
use Rattle.asm_macro.specs.Private.Moves.{IsSound, most_moves, rest_of}
use Rattle.asm_macro.proofs.expansion.Expansion.go_on.Given as goal

-- What is still to come is what was still to come at the beginning, as no line was given since.
abbrev pub invariant-loop-given : goal.invariant-loop-given
invariant-loop-given l =
    IsSound l.self × (l.initial.self.count ≤ l.self.count)
    × ((lines : List Numbered) (end : End) → Remains (Within (rest_of l.self)) lines end → Remains (Within (rest_of l.initial.self)) lines end)
    × AreOf l.buffer.items l.kept

abbrev pub decreases-loop-given : goal.decreases-loop-given
decreases-loop-given l = most_moves l.self
