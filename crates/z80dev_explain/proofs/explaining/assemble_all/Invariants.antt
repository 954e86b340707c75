use Rattle.std.proofs.Common.{All, map}
use Rattle.zmo_object.specs.Modules.{module_of}
use Rattle.zmo_object.specs.Rules.{IsModule}
use Rattle.z80dev_explain.proofs.explaining.assemble_all.Given as goal

abbrev pub invariant-loop-source : goal.invariant-loop-source
invariant-loop-source l = All IsModule (map module_of l.modules.items)
