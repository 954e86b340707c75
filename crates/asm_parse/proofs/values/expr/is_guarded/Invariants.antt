use Rattle.std.proofs.Common.{◌≡◌, drop}
use Rattle.asm_parse.specs.Values.Items.{is_guarded, is_guarded_behind}
use Rattle.asm_parse.proofs.values.expr.is_guarded.Given as goal

abbrev pub invariant-loop-item : goal.invariant-loop-item
invariant-loop-item l = is_guarded_behind l.before (drop l.item-index l.rest) ≡ is_guarded l.items
