-- Names, each with the number of a line.
use Rattle.std.specs.Prelude.{ℕ, List, Option, map}
use Rattle.std.specs.Map.{lookup}
use Rattle.std.specs.Str.{bytes_eq}

-- names in upper case, each with the number of a line
abbrev pub Noted : Type 0
Noted = List (List ℕ × ℕ)

-- the number of the first line with which a name is noted
abbrev pub first_noted : Noted → List ℕ → Option ℕ
first_noted noted name = lookup (bytes_eq name) noted

-- names that are on one line
abbrev pub noted_on : ℕ → List (List ℕ) → Noted
noted_on number names = map (λ name. (name, number)) names
