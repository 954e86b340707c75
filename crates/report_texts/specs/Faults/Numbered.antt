-- Names with their numbers in parentheses.
use Rattle.std.specs.Prelude.{ℕ, List, ◌++◌, codes, decimal}

-- a name with one number
abbrev pub name_with_number : List ℕ → ℕ → List ℕ
name_with_number name n = name ++ codes "(" ++ decimal n ++ codes ")"

-- a name with two numbers
abbrev pub name_with_two_numbers : List ℕ → ℕ → ℕ → List ℕ
name_with_two_numbers name m n = name ++ codes "(" ++ decimal m ++ codes "," ++ decimal n ++ codes ")"
