use Rattle.std.proofs.Common.{◌≡◌, map, take}
use Rattle.report_texts.specs.Front.{earlier, front_lines}
use Rattle.z80dev_make.proofs.warning.all_own_lines.Given as goal

abbrev pub invariant-loop-module : goal.invariant-loop-module
invariant-loop-module l = map (λ own. own.items) l.all.items ≡ map (λ x. map (earlier (front_lines l.front)) x.each.items) (take l.module-index l.lines)
