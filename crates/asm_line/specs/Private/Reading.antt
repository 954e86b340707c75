-- How the code reads the front of a line, step by step.
use Rattle.std.specs.Prelude.{ℕ, ◌+◌, List, [], ◌∷◌, Option, Some, None, Result, Ok, Err, Bool, false, ◌==◌, ◌&&◌, if◌then◌else◌, nat_eq, take, drop, find, codes}
use Rattle.std.specs.List.{prefix_len, starts_with}
use Rattle.std.specs.Char.{is_ascii_digit, is_ascii_alphanumeric, to_ascii_uppercase}
use Rattle.asm_line.specs.Types.{Kind, Mark, ScanFault}
use Rattle.asm_line.specs.Classes.{begins_name, continues_name, is_quote, is_control}
use Rattle.asm_line.specs.Numbers.{number_of}
use Rattle.asm_line.specs.Tokens.{mark_byte}

-- a token's kind and length, or an error
abbrev pub Reading : Type 0
Reading = Result (Kind × ℕ) ScanFault

abbrev pub every_mark : List Mark
every_mark = Mark.Comma ∷ Mark.Open ∷ Mark.Close ∷ Mark.Colon ∷ Mark.Plus ∷ Mark.Minus ∷ Mark.Star ∷ Mark.Slash ∷ Mark.Dollar ∷ []

abbrev pub mark_of : ℕ → Option Mark
mark_of b = find (λ m. b == mark_byte m) every_mark

abbrev pub is_af : List ℕ → Bool
is_af (a ∷ f ∷ []) = (to_ascii_uppercase a == 0x41) && (to_ascii_uppercase f == 0x46)
is_af _ = false

abbrev pub first_name : List ℕ → Kind × ℕ
first_name bytes =
    let len = prefix_len continues_name bytes in
    if is_af (take len bytes) && starts_with nat_eq (drop len bytes) (codes "'")
    then (Kind.OtherAf, len + 1)
    else (Kind.Name, len)

abbrev pub number_or_fault : Option ℕ → ℕ → Reading
number_or_fault (Some n) len = Ok (Kind.Number n, len)
number_or_fault None len = Err ScanFault.BadNumber

abbrev pub first_number : List ℕ → Reading
first_number bytes =
    let len = prefix_len is_ascii_alphanumeric bytes in
    number_or_fault (number_of (take len bytes)) len

abbrev pub longer_by : ℕ → Result ℕ ScanFault → Result ℕ ScanFault
longer_by n (Ok len) = Ok (n + len)
longer_by n (Err fault) = Err fault

-- how long a string is after its first quote, or its error
abbrev pub string_len : ℕ → List ℕ → Result ℕ ScanFault
string_len quote [] = Err ScanFault.OpenString
string_len quote (b ∷ []) = if b == quote then Ok 1 else if is_control b then Err ScanFault.BadByte else Err ScanFault.OpenString
string_len quote (b ∷ c ∷ more) =
    if b == quote then (if c == quote then longer_by 2 (string_len quote more) else Ok 1)
    else if is_control b then Err ScanFault.BadByte
    else longer_by 1 (string_len quote (c ∷ more))

abbrev pub quoted_or_fault : Result ℕ ScanFault → Reading
quoted_or_fault (Ok len) = Ok (Kind.Quoted, len + 1)
quoted_or_fault (Err fault) = Err fault

abbrev pub mark_or_fault : Option Mark → Reading
mark_or_fault (Some m) = Ok (Kind.Mark m, 1)
mark_or_fault None = Err ScanFault.BadByte

-- the token with which the bytes begin, or its error
abbrev pub first_token : List ℕ → Reading
first_token [] = Err ScanFault.BadByte
first_token (b ∷ more) =
    if begins_name b then Ok (first_name (b ∷ more))
    else if is_ascii_digit b then first_number (b ∷ more)
    else if is_quote b then quoted_or_fault (string_len b more)
    else mark_or_fault (mark_of b)
