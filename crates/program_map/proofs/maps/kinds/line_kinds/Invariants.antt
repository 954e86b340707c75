use Rattle.std.proofs.Common.{◌≡◌, ◌++◌, drop}
use Rattle.asm_names.specs.Lines.{lines_of}
use Rattle.program_map.specs.Private.Telling as spec
use Rattle.program_map.proofs.maps.kinds.line_kinds.Given as goal

abbrev pub invariant-loop-line : goal.invariant-loop-line
invariant-loop-line l = l.kinds.items ++ spec.line_kinds (lines_of (drop l.line-index l.lines)) ≡ spec.line_kinds (lines_of l.lines)
