use Rattle.zmo_object.specs.Modules.{module_of}
use Rattle.zlink.specs.Private.Joining.{part}
use Rattle.zlink.proofs.Programs.Names.{Resolving}
use Rattle.zlink.proofs.program.joining.links_of.Given as goal

abbrev pub invariant-loop-external : goal.invariant-loop-external
invariant-loop-external l = Resolving l.names (part l.number l.base (module_of l.object)) l.external l.externals.items
