use Rattle.std.proofs.Common.{◌≤◌, ◌-◌, ◌++◌, ℕ, List, drop, length}
use Rattle.asm_line.specs.declared.replacing.names.Place.{Place}
use Rattle.asm_line.specs.Replacing.Replaced.{SaySame}
use Rattle.asm_line.specs.Replacing.Views.{names_seen, texts}
use Rattle.asm_line.specs.Private.Places.{placed}
use Rattle.asm_line.proofs.replacing.names.add_all.Given as goal

-- The names that are added and those still to be added are all names.
abbrev pub invariant-loop-at : goal.invariant-loop-at
invariant-loop-at l =
    (l.at ≤ length l.names)
    × ((f : Place → List ℕ) → SaySame (names_seen f l.places.entries ++ placed f l.kind l.at (texts (drop l.at l.names))) (names_seen f l.initial.places.entries ++ placed f l.kind 0 (texts l.names)))

abbrev pub decreases-loop-at : goal.decreases-loop-at
decreases-loop-at l = length l.names - l.at
