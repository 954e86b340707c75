use Rattle.std.proofs.Common.{◌≡◌, ◌++◌, drop}
use Rattle.debugger.specs.Text.{watch_lines}
use Rattle.debugger.proofs.text.put_watches.Given as goal

abbrev pub invariant-loop-watch : goal.invariant-loop-watch
invariant-loop-watch l = l.text.items ++ watch_lines l.before l.labels (drop l.watch-index l.watches) ≡ l.initial.text.items ++ watch_lines l.before l.labels l.watches
