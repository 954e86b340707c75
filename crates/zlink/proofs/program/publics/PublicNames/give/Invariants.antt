use Rattle.zmo_object.specs.Modules.{module_of}
use Rattle.zlink.specs.Private.Joining.{part}
use Rattle.zlink.proofs.Programs.Names.{Giving}
use Rattle.zlink.proofs.program.publics.PublicNames.give.Given as goal

abbrev pub invariant-loop-number_of_label : goal.invariant-loop-number_of_label
invariant-loop-number_of_label l = Giving l.initial.self (part l.number l.base (module_of l.object)) l.number_of_label-index l.self
