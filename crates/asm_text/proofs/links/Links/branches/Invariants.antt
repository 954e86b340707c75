use Rattle.std.proofs.Common.{◌≡◌, ◌+◌, ◌-◌, Some, drop}
use Rattle.asm_text.specs.Nesting.Blocks.{Lengths, branch_lengths}
use Rattle.asm_text.specs.Private.Nesting.{if_length}
use Rattle.asm_text.proofs.Nesting.Walked.{Walking}
use Rattle.asm_text.proofs.links.Links.branches.Given as goal

-- The IF is closed, and its branches before line `at` are found.
abbrev pub invariant-loop-at : goal.invariant-loop-at
invariant-loop-at l =
    (all : Lengths) × (branch_lengths 0 0 (drop l.from l.initial.self) ≡ Some all) × (l.first ≡ l.from + all.0) × (l.last ≡ l.from + if_length all)
    × Walking l.initial.self l.at l.last l.others.items all.1

abbrev pub decreases-loop-at : goal.decreases-loop-at
decreases-loop-at l = l.last - l.at
