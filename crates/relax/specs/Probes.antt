use Rattle.std.specs.Prelude.{ℕ, ◌*◌, ◌≤◌, Bool, true, false, List, count_by}
use Rattle.relax.specs.declared.shape.Statement.{Statement}
use Rattle.relax.specs.declared.shape.Statement.TheVariants.{Fixed, Jump, Short}

-- How often the relaxation tests whether a jump fits.

abbrev pub is_jump : Statement → Bool
is_jump (Fixed n) = false
is_jump (Jump t) = true
is_jump (Short t) = false

-- how many relaxable jumps there are
abbrev pub jump_count : List Statement → ℕ
jump_count shape = count_by is_jump shape

-- how many tests there are: at least one for each relaxable jump, and at most 127 for each
pub record IsProbeCount (shape : List Statement) (probes : ℕ) : Type 0 where
  pub least : jump_count shape ≤ probes
  pub most : probes ≤ 127 * jump_count shape
