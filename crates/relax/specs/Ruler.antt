use Rattle.std.specs.Prelude.{◌≡◌, ℕ, ◌==◌, ◌||◌}
use Rattle.relax.specs.Choice.{Choice}

-- the new choice makes jump k long and is otherwise the old one
abbrev pub IsLengthened : Choice → Choice → ℕ → Type 0
IsLengthened old new k = (j : ℕ) → new j ≡ (old j || (k == j))
