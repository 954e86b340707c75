-- Operands: how tokens are cut into them, and what each is.
-- In words: docs/LANGUAGE.md, section 'Instructions'.
use Rattle.std.specs.Prelude.{ℕ, ◌-◌, ◌==◌, ◌&&◌, Bool, true, false, List, [], ◌∷◌, Option, Some, None, Result, Ok, Err, if◌then◌else◌, length, take, drop}
use Rattle.asm_line.specs.declared.token.Kind.{Kind}
use Rattle.asm_line.specs.declared.token.Mark.{Mark}
use Rattle.asm_line.specs.Tokens.{Lexeme}
use Rattle.asm_parse.specs.declared.fault.ExprFault.{ExprFault}
use Rattle.asm_parse.specs.Parsed.{parsed}
use Rattle.common.specs.Results.{◌>>=◌}
use Rattle.asm_line.specs.Commas.{open_behind}
use Rattle.asm_line.specs.Single.{is_name, is_comma}
use Rattle.z80_instr.specs.declared.IndexRegister.{IndexRegister}
use Rattle.z80_form.specs.declared.name.Name.{Name}
use Rattle.z80_form.specs.Named.{name_named}
use Rattle.z80_form.specs.declared.form.Pointed.{Pointed}
use Rattle.z80_form.specs.declared.form.Form.{Form}
use Rattle.asm_spell.specs.declared.fault.StmtFault.{StmtFault}
use Rattle.asm_spell.specs.Faults.{of_expression}
use Rattle.asm_spell.specs.Line.{ExpressionItems}

-- Commas.

abbrev pub with_first : Lexeme → List (List Lexeme) → List (List Lexeme)
with_first t [] = (t ∷ []) ∷ []
with_first t (piece ∷ pieces) = (t ∷ piece) ∷ pieces

-- the pieces that commas outside of parentheses separate, if `depth` parentheses are open at first
abbrev pub pieces : ℕ → List Lexeme → List (List Lexeme)
pieces depth [] = [] ∷ []
pieces depth (t ∷ ts) = if (depth == 0) && is_comma t then [] ∷ pieces 0 ts else with_first t (pieces (open_behind depth t.kind) ts)

-- the operands after a word; no tokens are no operands
abbrev pub operands : List Lexeme → List (List Lexeme)
operands [] = []
operands (t ∷ ts) = pieces 0 (t ∷ ts)

-- Expressions.

abbrev pub answered_by : Result ExpressionItems ExprFault → Result ExpressionItems StmtFault
answered_by (Ok e) = Ok e
answered_by (Err why) = Err (of_expression why)

-- the tokens parsed as an expression, or the error
abbrev pub parsed_expression : List Lexeme → Result ExpressionItems StmtFault
parsed_expression tokens = answered_by (parsed tokens)

-- Operands of instructions.

-- an operand: its form, its expression if it has one, and whether it is only one name that is no register and no condition
pub record WrittenOperand : Type 0 where
  pub form : Form
  pub expression : Option ExpressionItems
  pub is_name : Bool

abbrev pub alone : Form → WrittenOperand
alone form = record { form = form; expression = None; is_name = false }

abbrev pub is_one_name : List Lexeme → Bool
is_one_name (t ∷ []) = is_name t
is_one_name _ = false

abbrev pub with_expression : Form → Bool → List Lexeme → Result WrittenOperand StmtFault
with_expression form is_name tokens = parsed_expression tokens >>= λ e. Ok (record { form = form; expression = Some e; is_name = is_name })

-- the register or condition that a token names, if it names one
abbrev pub name_by : Kind → List ℕ → Option Name
name_by Kind.Name text = name_named text
name_by Kind.OtherAf text = Some Name.OtherAf
name_by _ text = None

abbrev pub token_name : Lexeme → Option Name
token_name t = name_by t.kind t.text

abbrev pub name_alone : List Lexeme → Option Name
name_alone (t ∷ []) = token_name t
name_alone _ = None

-- Memory operands.

abbrev pub is_last : List Lexeme → Bool
is_last [] = true
is_last (t ∷ ts) = false

-- whether the last token closes all open parentheses, and no token before it does
abbrev pub closed_by_last : ℕ → List Lexeme → Bool
closed_by_last depth [] = false
closed_by_last depth (t ∷ ts) = if open_behind depth t.kind == 0 then is_last ts else closed_by_last (open_behind depth t.kind) ts

-- whether the tokens begin with `(` and its partner is the last token
abbrev pub is_memory : List Lexeme → Bool
is_memory [] = false
is_memory (t ∷ ts) = (open_behind 0 t.kind == 1) && closed_by_last 1 ts

-- the tokens between the first and the last
abbrev pub inner : List Lexeme → List Lexeme
inner tokens = take (length tokens - 2) (drop 1 tokens)

abbrev pub index_named : Option Name → Option IndexRegister
index_named (Some Name.Ix) = Some IndexRegister.Ix
index_named (Some Name.Iy) = Some IndexRegister.Iy
index_named _ = None

abbrev pub is_sign_kind : Kind → Bool
is_sign_kind (Kind.Mark Mark.Plus) = true
is_sign_kind (Kind.Mark Mark.Minus) = true
is_sign_kind _ = false

abbrev pub at_expression : List Lexeme → Result WrittenOperand StmtFault
at_expression tokens = with_expression Form.AtNumber false tokens

-- `(IX)`, or `(IX+d)` and `(IX-d)`, in which the sign is the prefix operator of the expression; otherwise an expression
abbrev pub indexed : IndexRegister → Lexeme → List Lexeme → Result WrittenOperand StmtFault
indexed x register [] = Ok (alone (Form.AtIndex x))
indexed x register (sign ∷ more) =
    if is_sign_kind sign.kind then with_expression (Form.Displaced x) false (sign ∷ more)
    else at_expression (register ∷ sign ∷ more)

abbrev pub pointed : Option Name → Option Pointed
pointed (Some Name.Hl) = Some Pointed.Hl
pointed (Some Name.Bc) = Some Pointed.Bc
pointed (Some Name.De) = Some Pointed.De
pointed (Some Name.Sp) = Some Pointed.Sp
pointed (Some Name.C) = Some Pointed.C
pointed _ = None

-- `(HL)` and the like, or else `(e)`
abbrev pub pointed_or : Option Pointed → List Lexeme → Result WrittenOperand StmtFault
pointed_or (Some p) tokens = Ok (alone (Form.At p))
pointed_or None tokens = at_expression tokens

abbrev pub indexed_or : Option IndexRegister → Lexeme → List Lexeme → Result WrittenOperand StmtFault
indexed_or (Some x) first rest = indexed x first rest
indexed_or None first rest = pointed_or (pointed (name_alone (first ∷ rest))) (first ∷ rest)

-- a memory operand, given the tokens between its parentheses
abbrev pub memory_operand : List Lexeme → Result WrittenOperand StmtFault
memory_operand [] = at_expression []
memory_operand (first ∷ rest) = indexed_or (index_named (token_name first)) first rest

abbrev pub named_or : Option Name → List Lexeme → Result WrittenOperand StmtFault
named_or (Some n) tokens = Ok (alone (Form.Name n))
named_or None tokens =
    if is_memory tokens then memory_operand (inner tokens) else with_expression Form.Number (is_one_name tokens) tokens

-- an operand of an instruction: a register or condition, a memory operand, or an expression
abbrev pub written_operand : List Lexeme → Result WrittenOperand StmtFault
written_operand tokens = named_or (name_alone tokens) tokens
