use Rattle.std.proofs.Common.{◌-◌, [], length}
use Rattle.asm_line.specs.Replacing.Replaced.{ReplacementTable}
use Rattle.asm_line.specs.Replacing.Views.{in_call}
use Rattle.asm_text.specs.Kept.{HasOnly, Suffice}
use Rattle.asm_text.proofs.varying.places_of.Given as goal

-- For the lines before `at`, the places found so far name all whose role may differ.
abbrev pub invariant-loop-at : goal.invariant-loop-at
invariant-loop-at l = (t : ReplacementTable) → HasOnly t (in_call l.names [] 0) → Suffice l.lines l.body.at l.at l.places.items t

abbrev pub decreases-loop-at : goal.decreases-loop-at
decreases-loop-at l = length l.lines - l.at
