-- The words after a command, as CP/M gives them to the program: all in one line, and the first two as names of files.
use Rattle.std.specs.Prelude.{ℕ, ◌-◌, ◌+◌, ◌==◌, ◌&&◌, Bool, not, nat_le, nat_lt, List, ◌∷◌, ◌++◌, drop, if◌then◌else◌, length, map, replicate, take}
use Rattle.std.specs.Char.{to_ascii_uppercase}
use Rattle.std.specs.List.{flat_map, prefix_len}

-- a word with its letters a to z in upper case
abbrev pub upper_word : List ℕ → List ℕ
upper_word word = map to_ascii_uppercase word

-- the tail of a command: its words in upper case, with a space before each
abbrev pub tail_of : List (List ℕ) → List ℕ
tail_of words = flat_map (λ word. 0x20 ∷ upper_word word) words

-- the position of the first such byte, or the length of the word if it has none
abbrev pub first_position : ℕ → List ℕ → ℕ
first_position byte word = prefix_len (λ b. not (b == byte)) word

-- the part of a word before the first such byte, or the whole word
abbrev pub before : ℕ → List ℕ → List ℕ
before byte word = take (first_position byte word) word

-- the part of a word after the first such byte
abbrev pub after_first_byte : ℕ → List ℕ → List ℕ
after_first_byte byte word = drop (first_position byte word + 1) word

-- exactly n bytes: a longer part is cut, a shorter one is padded
abbrev pub cut_or_padded : ℕ → ℕ → List ℕ → List ℕ
cut_or_padded n fill part = take n part ++ replicate (n - length part) fill

-- a part of a name with exactly n bytes, padded with spaces; a `*` ends the part, and then `?` pads it
abbrev pub field : ℕ → List ℕ → List ℕ
field n part = cut_or_padded n (if nat_lt (length (before 0x2A part)) (length part) then 0x3F else 0x20) (before 0x2A part)

-- eight characters from before the first point, and three from after it
abbrev pub split_name : List ℕ → List ℕ
split_name word = field 8 (before 0x2E word) ++ field 3 (after_first_byte 0x2E word)

-- whether a word begins with a drive, `A:` to `P:`
abbrev pub names_drive : ℕ → ℕ → Bool
names_drive letter mark = nat_le 0x41 letter && nat_le letter 0x50 && (mark == 0x3A)

-- the drive (1 to 16, or 0 if the word has none) and the name of a file control block, from a word in upper case
abbrev pub control : List ℕ → List ℕ
control (letter ∷ mark ∷ name) = if names_drive letter mark then (letter - 0x40) ∷ split_name name else 0 ∷ split_name (letter ∷ mark ∷ name)
control word = 0 ∷ split_name word
