use Rattle.std.proofs.Common.{◌≡◌, ◌-◌, drop, length}
use Rattle.asm_line.specs.Replacing.Views.{texts}
use Rattle.asm_text.specs.Plain.{are_plain}
use Rattle.asm_text.proofs.plain.are_plain.Given as goal

-- All arguments are plain exactly if those that are left are.
abbrev pub invariant-loop-at : goal.invariant-loop-at
invariant-loop-at l = are_plain l.sign (texts l.parameters) (texts l.arguments) ≡ are_plain l.sign (texts (drop l.at l.parameters)) (texts (drop l.at l.arguments))

abbrev pub decreases-loop-at : goal.decreases-loop-at
decreases-loop-at l = length l.parameters - l.at
