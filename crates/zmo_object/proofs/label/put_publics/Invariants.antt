use Rattle.std.proofs.Common.{◌≡◌, ◌++◌, take}
use Rattle.std.specs.List.{flat_map}
use Rattle.zmo_object.specs.Fields.Texts.{word_bytes}
use Rattle.zmo_object.proofs.label.put_publics.Given as goal

abbrev pub invariant-loop-label : goal.invariant-loop-label
invariant-loop-label l = l.text.items ≡ l.initial.text.items ++ flat_map word_bytes (take l.label-index l.publics)
