-- An input that is read piece by piece.
use Rattle.std.proofs.Common.{◌≡◌, ℕ, ◌+◌, ◌≤◌, Bool, false, List, Option, length}
use Rattle.std.specs.Io.KnownBytes.{Consumes}
use Rattle.common.specs.declared.limits.TheConstants.{LONGEST_TEXT}

-- What was read so far is what the reader gave, and is within the limit. The reader has not failed. Each turn of the
-- loop made one read, which gave at least one byte or was interrupted.
pub record TextSoFar (old new : Option (List ℕ)) (text : List ℕ) (failed : Bool) (reads interruptions turns : ℕ) : Type 0 where
  pub limit : length text ≤ LONGEST_TEXT
  pub taken : Consumes old new text
  pub sound : failed ≡ false
  pub counted : reads ≡ turns
  pub progress : turns ≤ length text + interruptions
