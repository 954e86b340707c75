-- The words of the language: how names are read, how a word is looked up, and which names no program defines.
use Rattle.std.specs.Prelude.{ℕ, Bool, List, [], ◌∷◌, Option, Some, None, if◌then◌else◌, map, codes}
use Rattle.std.specs.List.{list_any}
use Rattle.std.specs.Char.{to_ascii_uppercase}
use Rattle.std.specs.Str.{bytes_eq}

-- a name in upper case: case does not matter in names
abbrev pub upper : List ℕ → List ℕ
upper name = map to_ascii_uppercase name

-- the value of the first of these words that is the name
abbrev pub first_word : {A : Type 0} → List (List ℕ × A) → List ℕ → Option A
first_word [] name = None
first_word (w ∷ ws) name = if bytes_eq name w.0 then Some w.1 else first_word ws name

-- registers, conditions and operators, which no program defines
abbrev pub reserved_names : List (List ℕ)
reserved_names = codes "A" ∷ codes "B" ∷ codes "C" ∷ codes "D" ∷ codes "E" ∷ codes "H" ∷ codes "L" ∷ codes "I" ∷ codes "R"
    ∷ codes "AF" ∷ codes "BC" ∷ codes "DE" ∷ codes "HL" ∷ codes "IX" ∷ codes "IY" ∷ codes "SP"
    ∷ codes "NZ" ∷ codes "Z" ∷ codes "NC" ∷ codes "PO" ∷ codes "PE" ∷ codes "P" ∷ codes "M"
    ∷ codes "HIGH" ∷ codes "LOW" ∷ codes "MOD" ∷ codes "SHL" ∷ codes "SHR"
    ∷ codes "EQ" ∷ codes "NE" ∷ codes "LT" ∷ codes "LE" ∷ codes "GT" ∷ codes "GE" ∷ codes "NOT" ∷ codes "AND" ∷ codes "OR" ∷ codes "XOR" ∷ []

abbrev pub is_reserved : List ℕ → Bool
is_reserved name = list_any (λ word. bytes_eq name word) reserved_names
