use Rattle.std.proofs.Common.{◌-◌, ℕ, map}
use Rattle.zmo_object.specs.Modules.{statement_of}
use Rattle.zmo_object.specs.Fields.Field.{each_field}
use Rattle.zmo_object.proofs.Fields.Many.{GoesOn}
use Rattle.zmo_object.specs.Reading.{statement_at}
use Rattle.zmo_object.proofs.reading.statements.Given as goal

abbrev pub invariant-loop : goal.invariant-loop
invariant-loop l = GoesOn (λ (none : ℕ). statement_at l.grow l.refs) (λ none _. none) (map statement_of l.statements.items) 0 (l.count - l.counter) l.rest (each_field (statement_at l.grow l.refs) l.count l.bytes)
