use Rattle.std.proofs.Common.{◌≡◌, ◌+◌, ◌++◌, length}
use Rattle.z80dev_run.specs.Profile.{counted_rows}
use Rattle.z80dev_run.proofs.profile.counted_rows.Given as goal

-- The rows so far and those of the counts that are left.
abbrev pub invariant-loop-count : goal.invariant-loop-count
invariant-loop-count l = record {
  number : l.number + length l.rest ≡ length l.counts;
  all : l.rows.items ++ counted_rows l.number l.rest ≡ counted_rows 0 l.counts;
}

abbrev pub decreases-loop-count : goal.decreases-loop-count
decreases-loop-count l = length l.rest
