use Rattle.std.proofs.Common.{◌≡◌, drop}
use Rattle.asm_names.specs.Lines.{lines_of}
use Rattle.asm_module.specs.Holding.{entry_name}
use Rattle.asm_module.proofs.module_names.entry_name.Given as goal

-- the lines so far have no END with a name
abbrev pub invariant-loop-line : goal.invariant-loop-line
invariant-loop-line l = entry_name (lines_of (drop l.line-index l.lines)) ≡ entry_name (lines_of l.lines)
