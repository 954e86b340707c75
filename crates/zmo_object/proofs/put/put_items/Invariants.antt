use Rattle.std.proofs.Common.{◌≡◌, ◌++◌, take}
use Rattle.zmo_object.specs.Fields.Texts.{expr_text}
use Rattle.zmo_object.proofs.put.put_items.Given as goal

abbrev pub invariant-loop-item : goal.invariant-loop-item
invariant-loop-item l = l.text.items ≡ l.initial.text.items ++ expr_text (take l.item-index l.items)
