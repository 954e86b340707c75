use Rattle.std.proofs.Common.{◌≡◌, map, take}
use Rattle.asm_names.specs.Layout.{layout_of}
use Rattle.zmo_object.specs.Modules.{label_of}
use Rattle.asm_module.specs.Holding.{labels}
use Rattle.asm_module.proofs.module_names.labels_of.Given as goal

abbrev pub invariant-loop-at : goal.invariant-loop-at
invariant-loop-at l = map label_of l.labels.items ≡ labels (layout_of l.layout) (take l.at l.table)
