-- The answer of a line, as a function. laws::scanned says that this is what Scans means, so nobody has to follow how it is found.
-- It is here for definitions about the tokens of a line.
use Rattle.std.specs.Prelude.{ℕ, zero, suc, ◌==◌, List, [], ◌∷◌, Result, Ok, Err, if◌then◌else◌, nat_lt, length, take, drop}
use Rattle.asm_line.specs.declared.scan.TheConstants.{LONGEST_LINE}
use Rattle.asm_line.specs.Types.{ScanFault}
use Rattle.asm_line.specs.Classes.{semicolon}
use Rattle.asm_line.specs.Tokens.{Lexeme}
use Rattle.asm_line.specs.Lines.{without_blanks}
use Rattle.asm_line.specs.Private.Reading.{Reading, first_token}

abbrev pub with_token : Lexeme → Result (List Lexeme) ScanFault → Result (List Lexeme) ScanFault
with_token token (Ok others) = Ok (token ∷ others)
with_token token (Err fault) = Err fault

-- the token at the front of these bytes and then the others, or its error
abbrev pub with_front : List ℕ → Reading → (List ℕ → Result (List Lexeme) ScanFault) → Result (List Lexeme) ScanFault
with_front start (Ok (kind, len)) others = with_token (record { kind = kind; text = take len start }) (others (without_blanks (drop len start)))
with_front start (Err fault) others = Err fault

-- the tokens of bytes that do not begin with a blank; at most n of them
abbrev pub scanned_within : ℕ → List ℕ → Result (List Lexeme) ScanFault
scanned_within n [] = Ok []
scanned_within zero (b ∷ more) = Ok []
scanned_within (suc n) (b ∷ more) =
    if b == semicolon then Ok [] else with_front (b ∷ more) (first_token (b ∷ more)) (λ start. scanned_within n start)

-- the tokens of a line, or its one error
abbrev pub scanned : List ℕ → Result (List Lexeme) ScanFault
scanned line = if nat_lt LONGEST_LINE (length line) then Err ScanFault.LineTooLong else scanned_within (length line) (without_blanks line)
