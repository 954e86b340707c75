-- What is found in the least choice.
use Rattle.std.specs.Prelude.{◌≡◌, ℕ, ◌<◌, ◌≤◌, List}
use Rattle.common.specs.declared.limits.TheConstants.{LONGEST_PROGRAM}
use Rattle.relax.specs.declared.shape.Statement.{Statement}
use Rattle.relax.specs.declared.growth.Verdict.{Verdict}
use Rattle.relax.specs.declared.growth.Verdict.TheVariants.{Best, Range, TooLarge}
use Rattle.relax.specs.Choice.{Choice, total, ShortsReach, IsLowestShortMiss}

-- What a verdict says about the one choice in which it is found. If that choice is the least settled one, what the
-- verdict says about every choice follows.
abbrev pub Judges : Choice → List Statement → Verdict → Type 0
Judges c shape (Best n) = ShortsReach c shape × (total c shape ≡ n) × (n ≤ LONGEST_PROGRAM)
Judges c shape (Range k) = IsLowestShortMiss c shape k
Judges c shape (TooLarge n) = ShortsReach c shape × (total c shape ≡ n) × (LONGEST_PROGRAM < n)
