use Rattle.std.proofs.Common.{◌≡◌, ◌<◌, ◌≤◌, ◌++◌, ◌∷◌, [], ℕ, List}
use Rattle.program_map.specs.Private.Gathered.{gathered, items_at, want_at}
use Rattle.program_map.proofs.reasons.gathering.put_member.Given as goal

abbrev pub invariant-loop-k : goal.invariant-loop-k
invariant-loop-k l = record {
  inside : (order : List ℕ) (j : ℕ) → l.low ≤ j → j < l.k → items_at l.initial.reasons j ≡ gathered (want_at l.wants j) j order → items_at l.reasons j ≡ gathered (want_at l.wants j) j (order ++ l.member ∷ []);
  below : (j : ℕ) → j < l.low → items_at l.reasons j ≡ items_at l.initial.reasons j;
  above : (j : ℕ) → l.k ≤ j → items_at l.reasons j ≡ items_at l.initial.reasons j;
}
