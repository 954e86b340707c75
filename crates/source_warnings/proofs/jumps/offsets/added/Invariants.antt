use Rattle.std.proofs.Common.{◌≡◌, ◌+◌, ◌%◌, length}
use Rattle.asm_parse.specs.Values.Arithmetic.{modulus}
use Rattle.source_warnings.specs.Jumps.Offsets.{added}
use Rattle.source_warnings.proofs.jumps.offsets.added.Given as goal

-- The sum so far and that of the items that are left are the whole sum.
abbrev pub invariant-loop-rest : goal.invariant-loop-rest
invariant-loop-rest l = (l.sum + added l.rest) % modulus ≡ added l.items

abbrev pub decreases-loop-rest : goal.decreases-loop-rest
decreases-loop-rest l = length l.rest
