use Rattle.std.proofs.Common.{◌≡◌, ◌++◌, map, take}
use Rattle.relax.specs.Choice.{chosen}
use Rattle.zmo_object.specs.Modules.{statement_of}
use Rattle.zlink.specs.Private.Marked.{marked_from}
use Rattle.zlink.proofs.file.layout.put_grown.Given as goal

abbrev pub invariant-loop-k : goal.invariant-loop-k
invariant-loop-k l = l.numbers.items ≡ l.fn.numbers.items ++ marked_from (chosen l.long) l.first (map statement_of (take l.k l.statements))
