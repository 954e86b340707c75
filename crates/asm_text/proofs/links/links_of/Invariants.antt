use Rattle.std.proofs.Common.{◌≡◌, ◌≤◌, length}
use Rattle.asm_text.specs.Private.Nesting.{AreEnds}
use Rattle.asm_text.proofs.links.links_of.Given as goal

-- The ends for the lines from `at` on are known.
abbrev pub invariant-loop-at : goal.invariant-loop-at
invariant-loop-at l =
    (l.at ≤ length l.roles.items) × (length l.ends.items ≡ length l.roles.items) × AreEnds l.roles.items l.ends.items l.at

abbrev pub decreases-loop-at : goal.decreases-loop-at
decreases-loop-at l = l.at
