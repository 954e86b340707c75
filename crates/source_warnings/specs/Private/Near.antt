-- The nearest jump, as the code keeps it.
use Rattle.std.specs.Prelude.{◌≡◌, ◌≤◌, ◌+◌, ℕ, List, Option, Some, None, if◌then◌else◌, length, nat_lt, take, reverse}
use Rattle.std.specs.List.{slice_index_or}
use Rattle.asm_parse.specs.Values.Arithmetic.{modulus}
use Rattle.source_warnings.specs.declared.jumps.part.Site.{Site}
use Rattle.source_warnings.specs.declared.jumps.near.Near.{Near}
use Rattle.source_warnings.specs.Jumps.Distances.{Sizes, jump_within}

-- the nearest jump, if it is nearer than this
abbrev pub within : ℕ → Option Near → Option Site
within bytes None = None
within bytes (Some near) = if nat_lt near.bytes bytes then Some near.jump else None

-- This is the first relaxable jump of some statements, and how many bytes come before it, or 65,536 if there are more.
pub record IsNear (sizes : Sizes) (near : Option Near) : Type 0 where
  pub finds : (bytes : ℕ) → bytes ≤ modulus → jump_within bytes sizes ≡ within bytes near

-- for each number of statements up to `count` the nearest jump, from there back
pub record AreNear (sizes : Sizes) (count : ℕ) (nears : List (Option Near)) : Type 0 where
  pub len : length nears ≡ count + 1
  pub each : (k : ℕ) → k ≤ count → IsNear (reverse (take k sizes)) (slice_index_or nears k None)
