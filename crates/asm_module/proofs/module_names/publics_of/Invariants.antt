use Rattle.std.proofs.Common.{◌≡◌, map, take}
use Rattle.asm_names.specs.Lines.{lines_of}
use Rattle.zmo_object.specs.Modules.{label_of}
use Rattle.asm_module.specs.Holding.{listed, publics}
use Rattle.asm_module.proofs.module_names.publics_of.Given as goal

abbrev pub invariant-loop-number : goal.invariant-loop-number
invariant-loop-number l = l.publics.items ≡ publics (map label_of (take l.number l.labels)) (listed (lines_of l.lines))
