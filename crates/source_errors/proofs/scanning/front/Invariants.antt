use Rattle.std.proofs.Common.{◌≡◌, ◌≤◌, length}
use Rattle.source_errors.specs.Found.{front}
use Rattle.source_errors.proofs.scanning.front.Given as goal

-- No longer front can be cut into tokens.
abbrev pub invariant-loop-count : goal.invariant-loop-count
invariant-loop-count l = (l.count ≤ length l.line) × (front l.count l.line ≡ front (length l.line) l.line)

abbrev pub decreases-loop-count : goal.decreases-loop-count
decreases-loop-count l = l.count
