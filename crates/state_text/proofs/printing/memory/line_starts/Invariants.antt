use Rattle.std.proofs.Common.{◌≡◌}
use Rattle.state_text.specs.Printing.Memory.{line_starts}
use Rattle.state_text.proofs.printing.memory.line_starts.Given as goal

abbrev pub invariant-loop-line : goal.invariant-loop-line
invariant-loop-line l = l.starts.items ≡ line_starts l.from l.line
