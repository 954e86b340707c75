use Rattle.std.proofs.Common.{◌≤◌, ◌-◌, map, length, drop}
use Rattle.std.specs.Option.{option_map}
use Rattle.asm_text.specs.Nesting.Views.{lengths_seen}
use Rattle.asm_text.specs.Prepared.{said}
use Rattle.asm_text.specs.Sections.Sections.{section_of}
use Rattle.asm_text.proofs.Sections.Branches.{Reached}
use Rattle.asm_text.proofs.blocks.branches_of.Given as goal

-- The branches found so far and those that are left are all branches.
abbrev pub invariant-loop-at : goal.invariant-loop-at
invariant-loop-at l =
    let seen = l.lines in
    let names = option_map (λ c. said c.now) l.call in
    (l.at ≤ length l.found.others.items)
    × Reached seen names l.fn.span (lengths_seen l.found) l.rest (drop l.at l.found.others.items) (section_of seen names l.first) (map (section_of seen names) l.others.items)

abbrev pub decreases-loop-at : goal.decreases-loop-at
decreases-loop-at l = length l.found.others.items - l.at
