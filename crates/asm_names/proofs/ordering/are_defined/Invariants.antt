use Rattle.std.proofs.Common.{◌<◌, length, take, All}
use Rattle.asm_names.proofs.ordering.are_defined.Given as goal

abbrev pub invariant-loop-named : goal.invariant-loop-named
invariant-loop-named l = All (λ named. All (λ to. to < length l.uses) named.items) (take l.named-index l.uses)
