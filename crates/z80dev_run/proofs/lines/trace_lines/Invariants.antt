use Rattle.std.proofs.Common.{take}
use Rattle.z80dev_run.specs.Lines.{IsTrace}
use Rattle.z80dev_run.proofs.lines.trace_lines.Given as goal

abbrev pub invariant-loop-step : goal.invariant-loop-step
invariant-loop-step l = IsTrace l.labels (take l.step-index l.steps) l.text.items
