use Rattle.std.proofs.Common.{◌≡◌, length, map, take}
use Rattle.relax.specs.Choice.{chosen}
use Rattle.zmo_object.specs.Modules.{module_of}
use Rattle.zlink.specs.Private.Marked.{marked_from}
use Rattle.zlink.proofs.Files.Growing.{statements_in}
use Rattle.zlink.proofs.file.layout.grown.Given as goal

abbrev pub invariant-loop-module : goal.invariant-loop-module
invariant-loop-module l = record {
  numbers : l.numbers.items ≡ marked_from (chosen l.long) 0 (statements_in (map module_of (take l.module-index l.modules)));
  first : l.first ≡ length (statements_in (map module_of (take l.module-index l.modules)));
}
