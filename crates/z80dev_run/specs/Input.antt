-- What the program gets as typed, from the bytes of standard input: each line end is one CR.
use Rattle.std.specs.Prelude.{ℕ, ◌==◌, ◌&&◌, Bool, false, List, [], ◌∷◌, ◌++◌, if◌then◌else◌}

abbrev pub begins_line_feed : List ℕ → Bool
begins_line_feed [] = false
begins_line_feed (byte ∷ bytes) = byte == 0x0A

-- what a byte becomes, given the bytes after it: LF becomes CR, and a CR before LF is left out
abbrev pub typed_byte : ℕ → List ℕ → List ℕ
typed_byte byte rest = if byte == 0x0A then 0x0D ∷ [] else if (byte == 0x0D) && begins_line_feed rest then [] else byte ∷ []

abbrev pub typed : List ℕ → List ℕ
typed [] = []
typed (byte ∷ rest) = typed_byte byte rest ++ typed rest
