use Rattle.std.proofs.Common.{◌≡◌, ◌++◌, drop, map}
use Rattle.program_map.proofs.maps.programs.built_places.Given as goal

abbrev pub invariant-loop-statement : goal.invariant-loop-statement
invariant-loop-statement l = l.places.items ++ map (λ o. o.place) (drop l.statement-index l.statement-items) ≡ map (λ o. o.place) l.built.statements.items
