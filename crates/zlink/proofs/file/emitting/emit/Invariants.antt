use Rattle.std.proofs.Common.{map, take}
use Rattle.relax.specs.Choice.{chosen}
use Rattle.zmo_object.specs.Modules.{module_of}
use Rattle.zlink.specs.Program.Laws.{statement_count}
use Rattle.zlink.specs.Program.Whole.{program}
use Rattle.zlink.proofs.Files.FileSoFar.{Written}
use Rattle.zlink.proofs.file.emitting.emit.Given as goal

-- the statements of the first modules are written
abbrev pub invariant-loop-m : goal.invariant-loop-m
invariant-loop-m l = Written (chosen l.long) (program (map module_of l.modules)) (statement_count (take l.m (map module_of l.modules))) l.file.items
