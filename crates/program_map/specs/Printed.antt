-- How addresses and numbers are printed.
use Rattle.std.specs.Prelude.{ℕ, ◌-◌, ◌/◌, ◌%◌, List, [], ◌∷◌, ◌++◌, decimal, length, replicate}
use Rattle.hex.specs.Hex.{encode_upper}

abbrev pub blanks : ℕ → List ℕ
blanks n = replicate n 0x20

abbrev pub line_feed_text : List ℕ
line_feed_text = 0x0A ∷ []

-- an address as four digits
abbrev pub address_text : ℕ → List ℕ
address_text address = encode_upper (address / 256 % 256 ∷ address % 256 ∷ [])

-- a number at the right of a number_column of this width
abbrev pub number_column : ℕ → ℕ → List ℕ
number_column width number = blanks (width - length (decimal number)) ++ decimal number
