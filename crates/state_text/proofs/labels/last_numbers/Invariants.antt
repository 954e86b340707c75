use Rattle.std.proofs.Common.{◌≡◌, ◌+◌, ◌<◌, ℕ, length, map}
use Rattle.std.specs.Prelude.{slice_index}
use Rattle.state_text.specs.Labelled.{parts_of}
use Rattle.state_text.specs.Private.Numbers.{last_at}
use Rattle.state_text.proofs.labels.last_numbers.Given as goal

-- The numbers so far and the labels that are left make the numbers of all labels.
abbrev pub invariant-loop-label : goal.invariant-loop-label
invariant-loop-label l = record {
  size : length l.numbers.items ≡ 65536;
  count : l.number + length l.rest ≡ length l.labels;
  left : (address : ℕ) → address < 65536 → last_at (slice_index l.numbers.items address) l.number (map parts_of l.rest) address ≡ last_at 0 0 (map parts_of l.labels) address;
}

abbrev pub decreases-loop-label : goal.decreases-loop-label
decreases-loop-label l = length l.rest
