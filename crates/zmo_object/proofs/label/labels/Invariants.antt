use Rattle.std.proofs.Common.{◌≡◌, ◌-◌, ◌++◌, map}
use Rattle.zmo_object.specs.Modules.{label_of}
use Rattle.zmo_object.specs.Fields.Field.{many}
use Rattle.zmo_object.proofs.Fields.Many.{GoesOn}
use Rattle.zmo_object.specs.Reading.{label_field, with_label}
use Rattle.zmo_object.proofs.label.labels.Given as goal

abbrev pub invariant-loop : goal.invariant-loop
invariant-loop l = record {
  read : GoesOn (label_field l.statements) with_label (map label_of l.labels.items) l.names (l.count - l.counter) l.rest (many (label_field l.statements) with_label l.initial.names l.count l.bytes);
  named : l.names ≡ l.initial.names ++ map (λ x. x.name) (map label_of l.labels.items);
}
