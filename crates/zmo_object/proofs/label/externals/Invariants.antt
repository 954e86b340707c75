use Rattle.std.proofs.Common.{◌-◌, map}
use Rattle.zmo_object.specs.Fields.Field.{many}
use Rattle.zmo_object.proofs.Fields.Many.{GoesOn}
use Rattle.zmo_object.specs.Reading.{name_at, with_further_name}
use Rattle.zmo_object.proofs.label.externals.Given as goal

abbrev pub invariant-loop : goal.invariant-loop
invariant-loop l = GoesOn name_at with_further_name (map (λ name. name.items) l.externals.items) l.names (l.count - l.counter) l.rest (many name_at with_further_name l.initial.names l.count l.bytes)
