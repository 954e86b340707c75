use Rattle.std.proofs.Common.{◌≡◌, map, take}
use Rattle.zlink.proofs.building.last_lines.Given as goal

abbrev pub invariant-loop-own : goal.invariant-loop-own
invariant-loop-own l = l.last.items ≡ map (λ x. x.last) (take l.own-index l.lines)
