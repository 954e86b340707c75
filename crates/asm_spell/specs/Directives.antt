-- Directives and their operands.
-- In words: docs/LANGUAGE.md, section 'Directives'.
use Rattle.std.specs.Prelude.{◌==◌, ℕ, Bool, true, false, List, [], ◌∷◌, Option, Some, None, Result, Ok, Err, if◌then◌else◌, codes}
use Rattle.std.specs.List.{list_any}
use Rattle.std.specs.Map.{lookup}
use Rattle.std.specs.Str.{str_eq_ignore_ascii_case}
use Rattle.asm_line.specs.declared.token.Kind.{Kind}
use Rattle.asm_line.specs.Tokens.{Lexeme}
use Rattle.common.specs.Results.{◌>>=◌}
use Rattle.asm_line.specs.Lists.{name_list}
use Rattle.asm_spell.specs.declared.fault.StmtFault.{StmtFault}
use Rattle.asm_spell.specs.Faults.{each}
use Rattle.asm_spell.specs.Line.{ExpressionItems, Value, Text, Byte, Body, Bytes, Words, Space, Public, External, Origin, End, Z80}
use Rattle.asm_spell.specs.Operands.{operands, parsed_expression, is_one_name}

-- DB.

-- the content of a string after its first quote: a quote in it is doubled
abbrev pub undoubled : ℕ → List ℕ → List ℕ
undoubled quote [] = []
undoubled quote (b ∷ []) = []
undoubled quote (b ∷ c ∷ more) = if b == quote then b ∷ undoubled quote more else b ∷ undoubled quote (c ∷ more)

-- the content of a string, given its text with the quotes
abbrev pub content : List ℕ → List ℕ
content [] = []
content (quote ∷ more) = undoubled quote more

-- the text of a token if it is a string
abbrev pub text_by : Kind → List ℕ → Option (List ℕ)
text_by Kind.Quoted text = Some text
text_by _ text = None

abbrev pub text_alone : List Lexeme → Option (List ℕ)
text_alone (t ∷ []) = text_by t.kind t.text
text_alone _ = None

abbrev pub text_or : Option (List ℕ) → List Lexeme → Result Value StmtFault
text_or (Some text) tokens = Ok (Text (content text))
text_or None tokens = parsed_expression tokens >>= λ e. Ok (Byte e)

-- an item of DB: one string, or a byte
abbrev pub data_item : List Lexeme → Result Value StmtFault
data_item tokens = text_or (text_alone tokens) tokens

abbrev pub is_empty_text : Value → Bool
is_empty_text (Text []) = true
is_empty_text _ = false

abbrev pub bytes_body : List Value → Result Body StmtFault
bytes_body [] = Err StmtFault.BadOperands
bytes_body (v ∷ vs) = if list_any is_empty_text (v ∷ vs) then Err StmtFault.BadOperands else Ok (Bytes (v ∷ vs))

abbrev pub of_bytes : List Lexeme → Result Body StmtFault
of_bytes tokens = each data_item (operands tokens) >>= bytes_body

-- DW, DS, ORG, .Z80, EQU.

abbrev pub words_body : List ExpressionItems → Result Body StmtFault
words_body [] = Err StmtFault.BadOperands
words_body (e ∷ es) = Ok (Words (e ∷ es))

abbrev pub of_words : List Lexeme → Result Body StmtFault
of_words tokens = each parsed_expression (operands tokens) >>= words_body

abbrev pub space_body : List ExpressionItems → Result Body StmtFault
space_body (size ∷ []) = Ok (Space size None)
space_body (size ∷ fill ∷ []) = Ok (Space size (Some fill))
space_body _ = Err StmtFault.BadOperands

abbrev pub of_space : List Lexeme → Result Body StmtFault
of_space tokens = each parsed_expression (operands tokens) >>= space_body

abbrev pub origin_body : List ExpressionItems → Result Body StmtFault
origin_body (e ∷ []) = Ok (Origin e)
origin_body _ = Err StmtFault.BadOperands

abbrev pub of_origin : List Lexeme → Result Body StmtFault
of_origin tokens = each parsed_expression (operands tokens) >>= origin_body

abbrev pub z80_body : List ExpressionItems → Result Body StmtFault
z80_body [] = Ok Z80
z80_body _ = Err StmtFault.BadOperands

abbrev pub of_nothing : List Lexeme → Result Body StmtFault
of_nothing tokens = each parsed_expression (operands tokens) >>= z80_body

-- EQU without a name is refused, after its operands are read.
abbrev pub nameless : List Lexeme → Result Body StmtFault
nameless tokens = each parsed_expression (operands tokens) >>= λ _. Err StmtFault.BadOperands

-- PUBLIC, EXTRN, END.

-- an operand where a name is needed: if it is not one name, it is read as an expression for its errors
abbrev pub name_or_expression : List Lexeme → Result (Option ExpressionItems) StmtFault
name_or_expression tokens = if is_one_name tokens then Ok None else parsed_expression tokens >>= λ e. Ok (Some e)

-- one or more names separated by commas, in upper case
abbrev pub names_or : Option (List (List ℕ)) → List Lexeme → Result (List (List ℕ)) StmtFault
names_or (Some list) tokens = Ok list
names_or None tokens = each name_or_expression (operands tokens) >>= λ _. Err StmtFault.BadOperands

abbrev pub names_listed : List Lexeme → Result (List (List ℕ)) StmtFault
names_listed tokens = names_or (name_list tokens) tokens

abbrev pub public : List Lexeme → Result Body StmtFault
public tokens = names_listed tokens >>= λ list. Ok (Public list)

abbrev pub external : List Lexeme → Result Body StmtFault
external tokens = names_listed tokens >>= λ list. Ok (External list)

-- END with a list of names, which has to have only one
abbrev pub end_body : List (List ℕ) → Result Body StmtFault
end_body (name ∷ []) = Ok (End (Some name))
end_body _ = Err StmtFault.BadOperands

abbrev pub end : List Lexeme → Result Body StmtFault
end [] = Ok (End None)
end (t ∷ ts) = names_listed (t ∷ ts) >>= end_body

-- The words, each with how the tokens after it are parsed.

abbrev pub directives : List (List ℕ × (List Lexeme → Result Body StmtFault))
directives = (codes "DB", of_bytes) ∷ (codes "DEFB", of_bytes) ∷ (codes "DEFM", of_bytes) ∷ (codes "DW", of_words) ∷ (codes "DEFW", of_words)
    ∷ (codes "DS", of_space) ∷ (codes "DEFS", of_space) ∷ (codes "PUBLIC", public) ∷ (codes "GLOBAL", public) ∷ (codes "EXTRN", external) ∷ (codes "EXTERNAL", external)
    ∷ (codes "ORG", of_origin) ∷ (codes "END", end) ∷ (codes ".Z80", of_nothing) ∷ (codes "EQU", nameless) ∷ []

-- how the tokens after a word are parsed, if it is a directive in upper or lower case
abbrev pub directive : List ℕ → Option (List Lexeme → Result Body StmtFault)
directive name = lookup (str_eq_ignore_ascii_case name) directives
