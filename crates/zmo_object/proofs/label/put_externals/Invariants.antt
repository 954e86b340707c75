use Rattle.std.proofs.Common.{◌≡◌, ◌++◌, take, map}
use Rattle.std.specs.List.{flat_map}
use Rattle.zmo_object.specs.Fields.Texts.{with_length}
use Rattle.zmo_object.proofs.label.put_externals.Given as goal

abbrev pub invariant-loop-name : goal.invariant-loop-name
invariant-loop-name l = l.text.items ≡ l.initial.text.items ++ flat_map with_length (map (λ name. name.items) (take l.name-index l.externals))
