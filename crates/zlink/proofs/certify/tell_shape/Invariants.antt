use Rattle.std.proofs.Common.{◌≡◌, map, take}
use Rattle.zlink.specs.Certified.{told_size}
use Rattle.zlink.proofs.certify.tell_shape.Given as goal

abbrev pub invariant-loop-statement : goal.invariant-loop-statement
invariant-loop-statement l = l.statements.items ≡ map told_size (take l.statement-index l.shape)
