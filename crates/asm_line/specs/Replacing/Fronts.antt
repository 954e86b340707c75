-- Lines whose first tokens are not replaced.
use Rattle.std.specs.Prelude.{◌≡◌, Bool, true, false, List, [], ◌∷◌, ◌++◌, None, Result, Ok, Err}
use Rattle.std.specs.Map.{lookup}
use Rattle.std.specs.Str.{bytes_eq}
use Rattle.asm_line.specs.declared.fault.ScanFault.{ScanFault}
use Rattle.asm_line.specs.declared.token.Kind.{Kind}
use Rattle.asm_line.specs.Tokens.{Lexeme}
use Rattle.common.specs.Words.{upper}
use Rattle.asm_line.specs.Single.{is_name}
use Rattle.asm_line.specs.Replacing.Replaced.{ReplacementTable}

-- the token is not a name of the table
abbrev pub IsLeft : ReplacementTable → Lexeme → Type 0
IsLeft table token = is_name token ≡ true → lookup (bytes_eq (upper token.text)) table ≡ None

abbrev pub NextIsLeft : ReplacementTable → List Lexeme → Type 0
NextIsLeft table [] = Unit {0}
NextIsLeft table (token ∷ tokens) = IsLeft table token

-- a token of this kind may become longer if what replaces the next token begins with the right byte
abbrev pub goes_on : Kind → Bool
goes_on (Kind.Number n) = true
goes_on Kind.Quoted = true
goes_on _ = false

-- The first tokens of a line are not replaced; nor is the next one if the last of them could become longer.
abbrev pub AreLeft : ReplacementTable → List Lexeme → List Lexeme → Type 0
AreLeft table [] more = Unit {0}
AreLeft table (token ∷ []) more = IsLeft table token × (goes_on token.kind ≡ true → NextIsLeft table more)
AreLeft table (token ∷ other ∷ front) more = IsLeft table token × AreLeft table (other ∷ front) more

-- If the line can be tokenized, its tokens begin with these.
abbrev pub Begins : List Lexeme → Result (List Lexeme) ScanFault → Type 0
Begins front (Ok tokens) = (others : List Lexeme) × (tokens ≡ front ++ others)
Begins front (Err fault) = Unit {0}
