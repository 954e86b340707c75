use Rattle.std.proofs.Common.{◌≡◌, ◌≤◌, length, take, ◌*◌}
use Rattle.zmo_object.specs.Fields.Texts.{expr_text}
use Rattle.zmo_object.proofs.put.items_len.Given as goal

abbrev pub invariant-loop-item : goal.invariant-loop-item
invariant-loop-item l = record {
  few : l.len ≤ 3 * l.item-index;
  so_far : l.len ≡ length (expr_text (take l.item-index l.items));
}
