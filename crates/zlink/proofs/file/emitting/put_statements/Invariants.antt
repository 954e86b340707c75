use Rattle.std.proofs.Common.{map, slice_index, take}
use Rattle.relax.specs.Choice.{chosen}
use Rattle.zmo_object.specs.Modules.{statement_of}
use Rattle.zlink.specs.Private.Pieces.{Appends, AreLaid, IsSizedPiece}
use Rattle.zlink.proofs.file.emitting.put_statements.Given as goal

abbrev pub invariant-loop-k : goal.invariant-loop-k
invariant-loop-k l = Appends l.fn.file.items l.file.items (AreLaid (λ k. IsSizedPiece (slice_index l.places k) (chosen l.long k) l.table) l.first (map statement_of (take l.k l.statements)))
