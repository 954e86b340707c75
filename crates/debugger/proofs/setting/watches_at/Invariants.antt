use Rattle.std.proofs.Common.{◌≡◌, ◌++◌, drop}
use Rattle.debugger.specs.Text.{watches_at}
use Rattle.debugger.proofs.setting.watches_at.Given as goal

abbrev pub invariant-loop-watch : goal.invariant-loop-watch
invariant-loop-watch l = l.found.items ++ watches_at l.address l.there (drop l.watch-index l.watches) ≡ watches_at l.address l.there l.watches
