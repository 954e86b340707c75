-- Words for the laws about reasons.
use Rattle.std.specs.Prelude.{◌≡◌, ℕ, List, true}
use Rattle.relax.specs.Choice.{Choice}
use Rattle.relax.specs.Growth.{after}

-- a choice makes the members of a list long
abbrev pub IsLongIn : List ℕ → Choice → Type 0
IsLongIn jumps c = (k : ℕ) → after jumps k ≡ true → c k ≡ true
