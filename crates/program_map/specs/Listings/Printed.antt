-- How addresses and bytes are printed.
use Rattle.std.specs.Prelude.{ℕ, ◌+◌, ◌-◌, ◌/◌, ◌%◌, List, [], ◌∷◌, ◌++◌, length, map, take, drop, replicate}
use Rattle.std.specs.List.{flat_map}
use Rattle.common.specs.declared.limits.TheConstants.{FIRST_PLACE}
use Rattle.hex.specs.Hex.{encode_upper}

abbrev pub blanks : ℕ → List ℕ
blanks n = replicate n 0x20

abbrev pub line_feed_text : List ℕ
line_feed_text = 0x0A ∷ []

-- an address as four digits
abbrev pub address_text : ℕ → List ℕ
address_text address = encode_upper (address / 256 % 256 ∷ address % 256 ∷ [])

-- a text padded with blanks to this width
abbrev pub left_in : ℕ → List ℕ → List ℕ
left_in places text = text ++ blanks (places - length text)

-- A byte of a file: its number there, from 0, and its value.
pub record Byte : Type 0 where
  pub number : ℕ
  pub value : ℕ

-- what comes before the text of a row: the address of its first byte and its bytes, or blanks if it has none
abbrev pub margin : List Byte → List ℕ
margin [] = blanks 16
margin (byte ∷ bytes) =
    address_text (FIRST_PLACE + byte.number) ++ blanks 2 ++ left_in 8 (encode_upper (byte.value ∷ map (λ b. b.value) bytes)) ++ blanks 2

abbrev pub listing_row : List ℕ → List Byte → List ℕ
listing_row text bytes = margin bytes ++ text ++ line_feed_text

-- four bytes to a row; the last row may have fewer
abbrev pub rows : {X : Type 0} → List X → List (List X)
rows (a ∷ b ∷ c ∷ d ∷ rest) = (a ∷ b ∷ c ∷ d ∷ []) ∷ rows rest
rows [] = []
rows rest = rest ∷ []

-- A line: its text is in its first row, which it has even without bytes; further rows have no text.
abbrev pub listed_line : List ℕ → List Byte → List ℕ
listed_line text bytes = listing_row text (take 4 bytes) ++ flat_map (listing_row []) (rows (drop 4 bytes))
