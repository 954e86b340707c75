use Rattle.std.proofs.Common.{◌≡◌, ◌++◌, drop}
use Rattle.debugger.specs.Text.{breakpoints_at}
use Rattle.debugger.proofs.setting.breakpoints_at.Given as goal

abbrev pub invariant-loop-breakpoint : goal.invariant-loop-breakpoint
invariant-loop-breakpoint l = l.found.items ++ breakpoints_at l.address l.there (drop l.breakpoint-index l.breakpoints) ≡ breakpoints_at l.address l.there l.breakpoints
