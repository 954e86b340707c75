use Rattle.std.proofs.Common.{◌≡◌, take}
use Rattle.z80dev_make.specs.Build.{grown_lines}
use Rattle.z80dev_make.proofs.building.grown_lines.Given as goal

abbrev pub invariant-loop-jump : goal.invariant-loop-jump
invariant-loop-jump l = l.lines.items ≡ grown_lines l.files l.built.statements.items (take l.jump-index l.built.grown.items)
