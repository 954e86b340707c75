use Rattle.std.proofs.Common.{◌≡◌, None, replicate}
use Rattle.asm_names.proofs.settling.no_faults.Given as goal

abbrev pub invariant-loop : goal.invariant-loop
invariant-loop l = l.faults.items ≡ replicate l.counter None
