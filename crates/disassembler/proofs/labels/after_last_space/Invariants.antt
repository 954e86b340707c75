use Rattle.std.proofs.Common.{◌≡◌, ◌+◌, ◌≤◌, length, not, take}
use Rattle.std.specs.List.{suffix_len}
use Rattle.disassembler.specs.Labels.{is_space}
use Rattle.disassembler.proofs.labels.after_last_space.Given as goal

-- The bytes after these first ones are no spaces.
abbrev pub invariant-loop-from : goal.invariant-loop-from
invariant-loop-from l = record {
  within : l.from ≤ length l.bytes;
  passed : l.from + suffix_len (λ b. not (is_space b)) l.bytes ≡ length l.bytes + suffix_len (λ b. not (is_space b)) (take l.from l.bytes);
}

abbrev pub decreases-loop-from : goal.decreases-loop-from
decreases-loop-from l = l.from
