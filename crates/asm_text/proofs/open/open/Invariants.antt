use Rattle.std.proofs.Common.{◌≡◌, ◌-◌, length, Some}
use Rattle.asm_line.specs.Replacing.Views.{texts}
use Rattle.asm_text.specs.Calls.{opened, with_locals}
use Rattle.asm_text.specs.Prepared.{body_texts}
use Rattle.asm_text.proofs.open.open.Given as goal

-- The LOCAL names found so far come before those of the lines that are left.
abbrev pub invariant-loop-at : goal.invariant-loop-at
invariant-loop-at l =
    opened (body_texts l.lines l.body) ≡ with_locals (Some (texts l.locals.items)) (opened (body_texts l.lines (record l.body { at = l.at })))

abbrev pub decreases-loop-at : goal.decreases-loop-at
decreases-loop-at l = length l.lines - l.at
