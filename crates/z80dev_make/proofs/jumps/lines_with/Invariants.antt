use Rattle.std.proofs.Common.{◌≡◌, ◌≤◌, ◌+◌, length}
use Rattle.z80dev_make.specs.Jumps.{lines_with}
use Rattle.z80dev_make.proofs.jumps.lines_with.Given as goal

abbrev pub invariant-loop-byte : goal.invariant-loop-byte
invariant-loop-byte l = (l.count + lines_with l.letter l.rest ≡ lines_with l.letter l.text) × (l.count + length l.rest ≤ length l.text)

abbrev pub decreases-loop-byte : goal.decreases-loop-byte
decreases-loop-byte l = length l.rest
