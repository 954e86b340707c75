-- How the figures of a map add up.
use Rattle.std.specs.Prelude.{◌≡◌, ℕ, ◌+◌, All, Bool, true, false}
use Rattle.common.specs.declared.limits.TheConstants.{FIRST_PLACE}
use Rattle.relax.specs.declared.shape.Statement.{Statement}
use Rattle.relax.specs.declared.shape.Statement.TheVariants as sized
use Rattle.program_map.specs.declared.maps.figures.Figures.{Figures}
use Rattle.program_map.specs.Mapped.{MappedModule, MappedProgram}

abbrev pub figure_bytes : Figures → ℕ
figure_bytes f = f.code + f.«data» + f.space

-- Code, data and space of a module are its bytes, from its first address to its end. Each of its relaxable jumps is short or long.
pub record AddsUp (m : MappedModule) : Type 0 where
  pub bytes : m.first + figure_bytes m.figures ≡ m.end
  pub jumps : m.figures.jumps ≡ m.figures.short + m.figures.long

-- a jump that may be short or long, which has a line J in the sizes file
abbrev pub is_sized_jump : Statement → Bool
is_sized_jump (sized.Jump target) = true
is_sized_jump other = false

-- The map is that of a program of this many bytes: each module adds up, and the bytes and the jumps of all of them do.
pub record IsWholeMap (bytes : ℕ) (p : MappedProgram) : Type 0 where
  pub each : All AddsUp p.modules
  pub sum : figure_bytes p.total ≡ bytes
  pub end : p.end ≡ FIRST_PLACE + bytes
  pub jumps : p.total.jumps ≡ p.total.short + p.total.long
