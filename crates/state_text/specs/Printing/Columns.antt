-- How numbers and columns are printed.
use Rattle.std.specs.Prelude.{ℕ, ◌-◌, ◌/◌, ◌%◌, List, [], ◌∷◌, ◌++◌, length, replicate}
use Rattle.hex.specs.Hex.{encode_upper}

abbrev pub blanks : ℕ → List ℕ
blanks n = replicate n 0x20

-- a text in a column of this width, on its right, and on its left with a blank after it
abbrev pub on_right : ℕ → List ℕ → List ℕ
on_right width text = blanks (width - length text) ++ text

abbrev pub column : ℕ → List ℕ → List ℕ
column width text = text ++ blanks (width - length text) ++ blanks 1

-- a word as four hexadecimal digits
abbrev pub word_text : ℕ → List ℕ
word_text word = encode_upper (word / 256 ∷ word % 256 ∷ [])
