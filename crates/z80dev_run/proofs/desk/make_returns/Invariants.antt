use Rattle.std.proofs.Common.{◌≡◌, ◌<◌, ◌≤◌, ℕ, get_or}
use Rattle.z80dev_run.specs.Desk.{line_key}
use Rattle.z80dev_run.proofs.desk.make_returns.Given as goal

abbrev pub invariant-loop-byte : goal.invariant-loop-byte
invariant-loop-byte l =
    ((k : ℕ) → k < l.byte-index → get_or l.bytes k 0 ≡ line_key (get_or l.initial.bytes k 0))
    × ((k : ℕ) → l.byte-index ≤ k → get_or l.bytes k 0 ≡ get_or l.initial.bytes k 0)
