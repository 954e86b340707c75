use Rattle.std.proofs.Common.{◌≡◌, ◌++◌, take, map}
use Rattle.std.specs.List.{flat_map}
use Rattle.zmo_object.specs.Modules.{label_of}
use Rattle.zmo_object.specs.Texts.{label_text}
use Rattle.zmo_object.proofs.label.put_labels.Given as goal

abbrev pub invariant-loop-label : goal.invariant-loop-label
invariant-loop-label l = l.text.items ≡ l.initial.text.items ++ flat_map label_text (map label_of (take l.label-index l.labels))
