use Rattle.std.proofs.Common.{◌≡◌, ℕ, ◌+◌, ◌*◌, ◌≤◌, vec_len, slice_index}
use Rattle.relax.specs.Choice.{chosen, place}
use Rattle.zlink.proofs.file.layout.places_of.Given as goal

-- the addresses up to statement k are in the list, and the next one is known
abbrev pub invariant-loop-k : goal.invariant-loop-k
invariant-loop-k l = record {
  len : vec_len l.places ≡ l.k + 1;
  next : l.next ≡ place (chosen l.long) l.statements l.k;
  small : l.next ≤ 256 + 65535 * l.k;
  each : (j : ℕ) → j ≤ l.k → slice_index l.places.items j ≡ place (chosen l.long) l.statements j;
}
