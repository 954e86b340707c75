use Rattle.std.proofs.Common.{◌≡◌, ◌≤◌, ◌++◌, drop, map}
use Rattle.zmo_object.specs.Modules.{statement_of}
use Rattle.program_map.specs.Private.Telling.{told}
use Rattle.program_map.proofs.maps.kinds.put_told.Given as goal

abbrev pub invariant-loop-statement : goal.invariant-loop-statement
invariant-loop-statement l = record {
  few : l.next ≤ l.statement-index;
  all : l.kinds.items ++ told (map statement_of (drop l.statement-index l.statements)) (drop l.next l.said) ≡ l.fn.kinds.items ++ told (map statement_of l.statements) l.said;
}
