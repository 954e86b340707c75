use Rattle.std.proofs.Common.{◌-◌, ◌+◌}
use Rattle.zmo_object.specs.Fields.Field.{many}
use Rattle.zmo_object.proofs.Fields.Many.{GoesOn}
use Rattle.zmo_object.specs.Reading.{public_at}
use Rattle.zmo_object.proofs.label.publics.Given as goal

abbrev pub invariant-loop : goal.invariant-loop
invariant-loop l = GoesOn (public_at l.labels) (λ _ p. p + 1) l.publics.items l.least (l.count - l.counter) l.rest (many (public_at l.labels) (λ _ p. p + 1) 0 l.count l.bytes)
