use Rattle.std.proofs.Common.{◌≡◌, ◌==◌, drop, find, map}
use Rattle.zmo_object.specs.Modules.{label_of}
use Rattle.z80dev_make.proofs.warned.label_at.Given as goal

-- The label is among those that are left.
abbrev pub invariant-loop-label : goal.invariant-loop-label
invariant-loop-label l =
    find (λ x. x.statement == l.reference) (map label_of l.«module».labels.items) ≡ find (λ x. x.statement == l.reference) (map label_of (drop l.label-index l.label-items))
