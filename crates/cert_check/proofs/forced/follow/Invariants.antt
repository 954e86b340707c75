use Rattle.std.proofs.Common.{take}
use Rattle.cert_check.specs.Private.Following.{Follows, IsLayout}
use Rattle.cert_check.proofs.forced.follow.Given as goal

abbrev pub invariant-loop-i : goal.invariant-loop-i
invariant-loop-i l = record {
  follows : Follows l.statements (take l.i l.order) l.long.items;
  layout : IsLayout l.statements l.long.items l.sizes.items;
}
