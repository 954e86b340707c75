-- The places of the names of a macro.
use Rattle.std.specs.Prelude.{ℕ, ◌+◌, List, [], ◌∷◌}
use Rattle.asm_line.specs.declared.replacing.names.NameKind.{NameKind}
use Rattle.asm_line.specs.declared.replacing.names.Place.{Place}
use Rattle.asm_line.specs.Replacing.Replaced.{ReplacementTable}

-- names of one kind, which get ascending places from `at` on, each with what f gives for its place
abbrev pub placed : (Place → List ℕ) → NameKind → ℕ → List (List ℕ) → ReplacementTable
placed f kind at [] = []
placed f kind at (name ∷ names) = (name, f (record { kind = kind; at = at })) ∷ placed f kind (at + 1) names
