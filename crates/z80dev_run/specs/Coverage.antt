-- A listing with how often each line ran.
use Rattle.std.specs.Prelude.{ℕ, ◌+◌, ◌*◌, ◌==◌, ◌&&◌, List, [], ◌∷◌, ◌++◌, Option, Some, None, Result, Ok, codes, decimal, if◌then◌else◌, slice_index}
use Rattle.hex.specs.Hex.{decode_sized}
use Rattle.state_text.specs.Printing.Columns.{blanks, on_right}

-- the word whose two bytes these are
abbrev pub word_of : {E : Type 0} → Result (List ℕ) E → Option ℕ
word_of (Ok (high ∷ low ∷ more)) = Some (256 * high + low)
word_of other = None

-- the address that a line of a listing begins with: four hexadecimal digits and two blanks
abbrev pub listed_address : List ℕ → Option ℕ
listed_address (a ∷ b ∷ c ∷ d ∷ e ∷ f ∷ rest) = if (e == 0x20) && (f == 0x20) then word_of (decode_sized (a ∷ b ∷ c ∷ d ∷ []) 2) else None
listed_address line = None

-- how many steps were made at an address; blanks for a line without one
abbrev pub margin_text : List ℕ → Option ℕ → List ℕ
margin_text counts (Some address) = on_right 10 (decimal (slice_index counts address))
margin_text counts None = blanks 10

abbrev pub coverage_line : List ℕ → List ℕ → List ℕ
coverage_line counts line = margin_text counts (listed_address line) ++ blanks 1 ++ line ++ codes "\n"
