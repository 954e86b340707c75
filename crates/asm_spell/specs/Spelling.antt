-- The line that tokens are parsed as, or their first error.
-- In words: docs/LANGUAGE.md, section 'Lines'.
use Rattle.std.specs.Prelude.{ℕ, Bool, List, [], ◌∷◌, Option, Some, None, Result, Ok, Err, if◌then◌else◌, map}
use Rattle.std.specs.Option.{option_and_then, option_map}
use Rattle.std.specs.List.{cons_option, list_any, filter_map}
use Rattle.asm_line.specs.Tokens.{Lexeme}
use Rattle.asm_parse.specs.declared.item.Item.{Item}
use Rattle.asm_parse.specs.Source.{Name}
use Rattle.common.specs.Results.{◌>>=◌}
use Rattle.common.specs.Words.{upper, is_reserved}
use Rattle.asm_line.specs.Forms as front
use Rattle.z80_instr.specs.declared.Cond.{Cond}
use Rattle.z80_instr.specs.declared.ShortCond.{ShortCond}
use Rattle.z80_instr.specs.declared.Instr.{Instr}
use Rattle.z80_form.specs.declared.mnemonic.Mnemonic.{Mnemonic}
use Rattle.z80_form.specs.Named.{mnemonic_named}
use Rattle.z80_form.specs.declared.field.Field.{Field}
use Rattle.z80_form.specs.Numbers.{field_of}
use Rattle.z80_form.specs.Spelling.{instruction_of}
use Rattle.asm_spell.specs.declared.fault.StmtFault.{StmtFault}
use Rattle.z80_instr.specs.declared.Branch.{Branch}
use Rattle.asm_spell.specs.Faults.{value_or, each}
use Rattle.asm_spell.specs.Line.{ExpressionItems, Body, Code, Jump, Short, Public, External, End, Line, Equ, Statement}
use Rattle.asm_spell.specs.Operands.{operands, parsed_expression, WrittenOperand, written_operand}
use Rattle.asm_spell.specs.Directives.{directive}

-- Instructions.

-- the expression of an operand with the field that it fills, if it has both
abbrev pub field_expression : Option Field → Option ExpressionItems → Option (Field × ExpressionItems)
field_expression (Some field) (Some e) = Some (field, e)
field_expression _ _ = None

abbrev pub numbers : Instr → List WrittenOperand → List (Field × ExpressionItems)
numbers instr read = filter_map (λ w. field_expression (field_of instr w.form) w.expression) read

-- the condition as one of JR, if JR can test it
abbrev pub short_condition : Cond → Option ShortCond
short_condition Cond.NotZero = Some ShortCond.NotZero
short_condition Cond.Zero = Some ShortCond.Zero
short_condition Cond.NotCarry = Some ShortCond.NotCarry
short_condition Cond.Carry = Some ShortCond.Carry
short_condition _ = None

-- an instruction whose target is one name: a relaxable jump, or one that is always short; None for other instructions
abbrev pub jump_to : Instr → List ℕ → Option Body
jump_to (Instr.Jump nn) name = Some (Jump None name)
jump_to (Instr.JumpIf cc nn) name = option_map (λ c. Jump (Some c) name) (short_condition cc)
jump_to (Instr.JumpRelative e) name = Some (Short (Branch.Relative None) name)
jump_to (Instr.JumpRelativeIf cc e) name = Some (Short (Branch.Relative (Some cc)) name)
jump_to (Instr.Djnz e) name = Some (Short Branch.CountDown name)
jump_to _ name = None

-- the name, if an expression is only one name
abbrev pub only_name : Option ExpressionItems → Option (List ℕ)
only_name (Some (Item.Leaf (Name name) ∷ [])) = Some name
only_name _ = None

abbrev pub target_by : WrittenOperand → Option (List ℕ)
target_by w = if w.is_name then only_name w.expression else None

-- the name, if the last operand is only one name
abbrev pub target : List WrittenOperand → Option (List ℕ)
target [] = None
target (w ∷ []) = target_by w
target (w ∷ v ∷ more) = target (v ∷ more)

-- a jump to one name, or else the instruction with its expressions
abbrev pub jump_or : Option Body → Instr → List WrittenOperand → Body
jump_or (Some jump) instr read = jump
jump_or None instr read = Code instr (numbers instr read)

abbrev pub instruction_body : Instr → List WrittenOperand → Body
instruction_body instr read = jump_or (option_and_then (jump_to instr) (target read)) instr read

abbrev pub instruction_by : Mnemonic → List WrittenOperand → Result Body StmtFault
instruction_by m read = value_or StmtFault.BadOperands (instruction_of m (map (λ w. w.form) read)) >>= λ instr. Ok (instruction_body instr read)

-- a mnemonic and the tokens after it, parsed
abbrev pub instruction : Mnemonic → List Lexeme → Result Body StmtFault
instruction m tokens = each written_operand (operands tokens) >>= instruction_by m

-- Lines.

abbrev pub word_by : Option Mnemonic → Option (List Lexeme → Result Body StmtFault) → List Lexeme → Result Body StmtFault
word_by (Some m) found tokens = instruction m tokens
word_by None (Some directive) tokens = directive tokens
word_by None None tokens = Err StmtFault.UnknownWord

-- a word and the tokens after it, parsed: as an instruction, or else as a directive
abbrev pub operation : List ℕ → List Lexeme → Result Body StmtFault
operation name tokens = word_by (mnemonic_named name) (directive name) tokens

-- the names that a statement defines or passes on
abbrev pub body_names : Body → List (List ℕ)
body_names (Public list) = list
body_names (External list) = list
body_names (End (Some name)) = name ∷ []
body_names _ = []

abbrev pub option_names : Option Body → List (List ℕ)
option_names None = []
option_names (Some body) = body_names body

-- the label of a line, and then the names of its statement
abbrev pub statement_names : Option (List ℕ) → Option Body → List (List ℕ)
statement_names label body = cons_option label (option_names body)

abbrev pub has_reserved : Option (List ℕ) → Option Body → Bool
has_reserved label body = list_any is_reserved (statement_names label body)

-- a line of a label and a statement, each if it has one; reserved names are refused
abbrev pub labelled_line : Option (List ℕ) → Option Body → Result Line StmtFault
labelled_line label body = if has_reserved label body then Err StmtFault.ReservedName else Ok (Statement label body)

-- an EQU line, given its name and the tokens after EQU
abbrev pub equ_definition : List ℕ → List Lexeme → Result Line StmtFault
equ_definition name tokens = parsed_expression tokens >>= λ e. if is_reserved name then Err StmtFault.ReservedName else Ok (Equ name e)

-- the line, given its label and head; the words of macros and blocks are unknown here
abbrev pub line_by : Option (List ℕ) → front.Head → List Lexeme → Result Line StmtFault
line_by label (front.Equ name) rest = equ_definition (upper name) rest
line_by label (front.Word name) rest = operation name rest >>= λ body. labelled_line (option_map upper label) (Some body)
line_by label front.Nothing [] = labelled_line (option_map upper label) None
line_by label _ rest = Err StmtFault.UnknownWord

-- the line that the tokens are parsed as, or its first error
abbrev pub spelled : List Lexeme → Result Line StmtFault
spelled tokens = let f = front.form tokens in line_by f.label f.head f.rest
