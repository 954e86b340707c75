use Rattle.std.proofs.Common.{◌≡◌, ◌<◌, ◌≤◌, ℕ, suc}
use Rattle.std.specs.Prelude.{slice_index}
use Rattle.state_text.specs.Private.Numbers.{last_below}
use Rattle.state_text.proofs.labels.fill.Given as goal

abbrev pub invariant-loop-number : goal.invariant-loop-number
invariant-loop-number l = record {
  done : (address : ℕ) → address < l.number-index → slice_index l.numbers address ≡ last_below (slice_index l.fn.numbers) (suc address);
  left : (address : ℕ) → l.number-index ≤ address → slice_index l.numbers address ≡ slice_index l.fn.numbers address;
  last : l.last ≡ last_below (slice_index l.fn.numbers) l.number-index;
}
