use Rattle.std.proofs.Common.{All, map, take}
use Rattle.std.specs.List.{AllZip}
use Rattle.zmo_object.specs.Modules.{module_of}
use Rattle.zmo_object.specs.Rules.{IsModule}
use Rattle.z80dev_make.specs.Link.{IsObject}
use Rattle.z80dev_make.proofs.linking.read_all.Given as goal

abbrev pub invariant-loop-object : goal.invariant-loop-object
invariant-loop-object l = AllZip IsObject (take l.object-index (map (λ o. o.items) l.objects)) (map module_of l.modules.items) × All IsModule (map module_of l.modules.items)
