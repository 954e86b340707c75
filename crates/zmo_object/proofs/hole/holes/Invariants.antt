use Rattle.std.proofs.Common.{◌-◌, ◌+◌}
use Rattle.zmo_object.specs.Holes.{width_size}
use Rattle.zmo_object.specs.Fields.Field.{many}
use Rattle.zmo_object.proofs.Fields.Many.{GoesOn}
use Rattle.zmo_object.specs.Reading.{hole_at}
use Rattle.zmo_object.proofs.hole.holes.Given as goal

abbrev pub invariant-loop : goal.invariant-loop
invariant-loop l =
    GoesOn (hole_at l.refs l.content) (λ _ h. h.offset + width_size h.width) l.holes.items l.from (l.count - l.counter) l.rest
    (many (hole_at l.refs l.content) (λ _ h. h.offset + width_size h.width) 0 l.count l.bytes)
