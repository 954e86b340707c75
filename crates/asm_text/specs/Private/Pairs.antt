-- Pairs of letters: each block word contains one of them.
use Rattle.std.specs.Prelude.{ℕ, List, [], ◌∷◌, Bool, false, ◌==◌, ◌&&◌, ◌||◌}
use Rattle.std.specs.Str.{str_to_ascii_lowercase}

-- whether two lower-case letters are a pair that IF and ENDIF, ELSE, MACRO, REPT or ENDM contains
abbrev pub is_pair : ℕ → ℕ → Bool
is_pair a b =
    ((a == 0x69) && (b == 0x66)) || ((a == 0x6C) && (b == 0x73)) || ((a == 0x63) && (b == 0x72)) || ((a == 0x70) && (b == 0x74))
    || ((a == 0x64) && (b == 0x6D))

-- whether the bytes contain a pair; the byte before them may be its first letter
abbrev pub paired : ℕ → List ℕ → Bool
paired before [] = false
paired before (b ∷ bytes) = is_pair before b || paired b bytes

-- whether a text contains a pair, in upper or lower case
abbrev pub has_pair : List ℕ → Bool
has_pair text = paired 0 (str_to_ascii_lowercase text)
