use Rattle.std.proofs.Common.{◌≡◌, ◌++◌, drop}
use Rattle.std.specs.Prelude.{◌==◌, filter, not}
use Rattle.debugger.proofs.text.without_returns.Given as goal

abbrev pub invariant-loop-byte : goal.invariant-loop-byte
invariant-loop-byte l = l.kept.items ++ filter (λ byte. not (byte == 13)) (drop l.byte-index l.bytes) ≡ filter (λ byte. not (byte == 13)) l.bytes
