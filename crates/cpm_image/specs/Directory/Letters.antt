-- Names are compared by the low seven bits of each byte. (CP/M 2.2 Interface Guide.)
use Rattle.std.specs.Prelude.{ℕ, ◌+◌, ◌*◌, ◌/◌, ◌%◌, ◌==◌, Bool, ◌||◌, List, map, zip}
use Rattle.std.specs.List.{list_all}

abbrev pub letters : List ℕ → List ℕ
letters name = map (λ b. b % 128) name

-- In a pattern, `?` matches any byte, and any other byte matches one with the same low seven bits.
abbrev pub byte_matches : ℕ → ℕ → Bool
byte_matches p b = (p == 0x3F) || (p % 128 == b % 128)

abbrev pub name_matches : List ℕ → List ℕ → Bool
name_matches pattern name = list_all (λ (p, b). byte_matches p b) (zip pattern name)

-- a name with other letters: each byte keeps its high bit, which is an attribute
abbrev pub with_letters : List ℕ → List ℕ → List ℕ
with_letters old new = map (λ (a, b). 128 * (a / 128) + b) (zip old new)
