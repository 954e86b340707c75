use Rattle.std.proofs.Common.{◌≡◌, drop, length}
use Rattle.std.specs.Vec.Iter.{into_iter_items, into_iter_len}
use Rattle.relax.specs.Choice.{chosen}
use Rattle.program_map.specs.Private.Gathered.{AreDescribed}
use Rattle.program_map.proofs.reasons.long_jumps.describe_all.Given as goal

abbrev pub invariant-loop-k : goal.invariant-loop-k
invariant-loop-k l = record {
  rest : drop l.k-iterator.count l.fn.reasons.items ≡ into_iter_items l.k-iterator.iter;
  len : into_iter_len l.k-iterator.iter ≡ length (into_iter_items l.k-iterator.iter);
  described : AreDescribed l.k-iterator.count l.statements (chosen l.long) l.places l.fn.reasons.items l.jumps.items;
}
