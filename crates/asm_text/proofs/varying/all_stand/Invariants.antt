use Rattle.std.proofs.Common.{◌≤◌, ◌<◌, ◌-◌, length, Some, All, take}
use Rattle.asm_text.specs.Stands.{Stands}
use Rattle.asm_text.specs.Prepared.{said}
use Rattle.asm_text.proofs.varying.all_stand.Given as goal

-- The lines read so far have the roles that they have as written.
abbrev pub invariant-loop-next : goal.invariant-loop-next
invariant-loop-next l =
    All (λ k. l.span.at ≤ k → k < l.span.end → k < length l.lines → Stands l.lines (Some (said l.call)) k) (take l.next l.places)

abbrev pub decreases-loop-next : goal.decreases-loop-next
decreases-loop-next l = length l.places - l.next
