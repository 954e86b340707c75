-- What is shown today for the screen codes of terminals of CP/M's time.
-- (The operator's manuals of the Lear Siegler ADM-3A, the Kaypro II, the Osborne 1, the TeleVideo 912 and 920, and the DEC VT52 and Heath H19; the
-- sequences of today are those of ECMA-48.)
use Rattle.std.specs.Prelude.{ℕ, ◌==◌, ◌&&◌, ◌||◌, ◌+◌, ◌-◌, Bool, List, [], ◌∷◌, ◌++◌, Option, Some, None, codes, decimal, if◌then◌else◌, nat_le}
use Rattle.cpm_console.specs.declared.codes.Codes.{Codes}
use Rattle.cpm_console.specs.declared.codes.Codes.TheVariants.{Plain, Adm3a, Vt52}
use Rattle.cpm_console.specs.declared.codes.Pending.{Pending}
use Rattle.cpm_console.specs.declared.codes.Pending.TheVariants.{Nothing, Escape, Line, Column, Rest, Attribute}

abbrev pub escape : ℕ
escape = 0x1B

-- clears the screen, with the cursor in its first place
abbrev pub clear : List ℕ
clear = escape ∷ codes "[H" ++ escape ∷ codes "[2J"

-- a control code of the ADM-3A: cursor up and right; clear to the end of the screen and of the line; clear the screen; cursor to the first place
abbrev pub adm3a_control : ℕ → Option (List ℕ)
adm3a_control byte =
    if byte == 0x0B then Some (escape ∷ codes "[A")
    else if byte == 0x0C then Some (escape ∷ codes "[C")
    else if byte == 0x17 then Some (escape ∷ codes "[J")
    else if byte == 0x18 then Some (escape ∷ codes "[K")
    else if byte == 0x1A then Some clear
    else if byte == 0x1E then Some (escape ∷ codes "[H")
    else None

-- the second byte of an escape sequence of the ADM-3A and its kin; nothing for one without a meaning here
abbrev pub adm3a_escape : ℕ → List ℕ
adm3a_escape byte =
    if (byte == 0x54) || (byte == 0x74) then escape ∷ codes "[K"
    else if (byte == 0x59) || (byte == 0x79) then escape ∷ codes "[J"
    else if (byte == 0x2A) || ((byte == 0x2B) || ((byte == 0x2C) || ((byte == 0x3A) || (byte == 0x3B)))) then clear
    else if byte == 0x45 then escape ∷ codes "[L"
    else if byte == 0x52 then escape ∷ codes "[M"
    else if byte == 0x51 then escape ∷ codes "[@"
    else if byte == 0x57 then escape ∷ codes "[P"
    else if byte == 0x29 then escape ∷ codes "[2m"
    else if byte == 0x28 then escape ∷ codes "[22m"
    else if byte == 0x6A then escape ∷ codes "[7m"
    else if byte == 0x6B then escape ∷ codes "[27m"
    else if byte == 0x6C then escape ∷ codes "[4m"
    else if byte == 0x6D then escape ∷ codes "[24m"
    else []

-- the same of the VT52 and the H19
abbrev pub vt52_escape : ℕ → List ℕ
vt52_escape byte =
    if byte == 0x41 then escape ∷ codes "[A"
    else if byte == 0x42 then escape ∷ codes "[B"
    else if byte == 0x43 then escape ∷ codes "[C"
    else if byte == 0x44 then escape ∷ codes "[D"
    else if byte == 0x45 then clear
    else if byte == 0x48 then escape ∷ codes "[H"
    else if byte == 0x49 then escape ∷ codes "M"
    else if byte == 0x4A then escape ∷ codes "[J"
    else if byte == 0x4B then escape ∷ codes "[K"
    else if byte == 0x4C then escape ∷ codes "[L"
    else if byte == 0x4D then escape ∷ codes "[M"
    else if byte == 0x70 then escape ∷ codes "[7m"
    else if byte == 0x71 then escape ∷ codes "[27m"
    else []

-- A cursor address follows ESC = and ESC Y. One byte follows ESC B, ESC C and ESC . of the ADM-3A's kin, and ESC x and ESC y of the H19. ESC G is
-- whole on the Kaypro II and the Osborne 1; on the terminals of TeleVideo an attribute follows. A second ESC begins a new sequence.
abbrev pub next_after_escape : Codes → ℕ → Pending
next_after_escape Plain byte = Nothing
next_after_escape Adm3a byte =
    if byte == escape then Escape
    else if byte == 0x3D then Line
    else if (byte == 0x42) || ((byte == 0x43) || (byte == 0x2E)) then Rest
    else if byte == 0x47 then Attribute
    else Nothing
next_after_escape Vt52 byte =
    if byte == escape then Escape
    else if byte == 0x59 then Line
    else if (byte == 0x78) || (byte == 0x79) then Rest
    else Nothing

-- an attribute of the terminals of TeleVideo: a character from 0 to ?
abbrev pub is_attribute : ℕ → Bool
is_attribute byte = nat_le 0x30 byte && nat_le byte 0x3F

-- what is shown for the second byte of an escape sequence
abbrev pub shown_after_escape : Codes → ℕ → List ℕ
shown_after_escape Plain byte = []
shown_after_escape Adm3a byte = adm3a_escape byte
shown_after_escape Vt52 byte = vt52_escape byte

-- The cursor goes to the line and the column of a cursor address, whose bytes count from 20H; those below 20H are 20H.
abbrev pub cursor : ℕ → ℕ → List ℕ
cursor line column = escape ∷ codes "[" ++ decimal (line - 0x20 + 1) ++ codes ";" ++ decimal (column - 0x20 + 1) ++ codes "H"

abbrev pub or_byte : ℕ → Option (List ℕ) → List ℕ
or_byte byte None = byte ∷ []
or_byte byte (Some text) = text

-- what is shown for a byte outside of a sequence
abbrev pub shown_alone : Codes → ℕ → List ℕ
shown_alone Plain byte = byte ∷ []
shown_alone Adm3a byte = if byte == escape then [] else or_byte byte (adm3a_control byte)
shown_alone Vt52 byte = if byte == escape then [] else byte ∷ []

abbrev pub next_alone : Codes → ℕ → Pending
next_alone Plain byte = Nothing
next_alone _ byte = if byte == escape then Escape else Nothing

-- what is shown for a byte, given what the bytes before it have begun
abbrev pub shown_for : Codes → Pending → ℕ → List ℕ
shown_for whose Nothing byte = shown_alone whose byte
shown_for whose Escape byte = shown_after_escape whose byte
shown_for whose Line byte = []
shown_for whose (Column line) byte = cursor line byte
shown_for whose Rest byte = []
shown_for whose Attribute byte = if is_attribute byte then [] else shown_alone whose byte

-- what is begun after a byte
abbrev pub next_for : Codes → Pending → ℕ → Pending
next_for whose Nothing byte = next_alone whose byte
next_for whose Escape byte = next_after_escape whose byte
next_for whose Line byte = Column byte
next_for whose (Column line) byte = Nothing
next_for whose Rest byte = Nothing
next_for whose Attribute byte = if is_attribute byte then Nothing else next_alone whose byte

-- What is shown for bytes, and what is begun after them.
abbrev pub screen_text : Codes → Pending → List ℕ → List ℕ
screen_text whose pending [] = []
screen_text whose pending (byte ∷ bytes) = shown_for whose pending byte ++ screen_text whose (next_for whose pending byte) bytes

abbrev pub next : Codes → Pending → List ℕ → Pending
next whose pending [] = pending
next whose pending (byte ∷ bytes) = next whose (next_for whose pending byte) bytes
