use Rattle.std.proofs.Common.{◌≡◌, ◌++◌, drop}
use Rattle.debugger.specs.Text.{breakpoint_lines}
use Rattle.debugger.proofs.text.put_breakpoints.Given as goal

abbrev pub invariant-loop-breakpoint : goal.invariant-loop-breakpoint
invariant-loop-breakpoint l = l.text.items ++ breakpoint_lines l.before l.labels (drop l.breakpoint-index l.breakpoints) ≡ l.initial.text.items ++ breakpoint_lines l.before l.labels l.breakpoints
