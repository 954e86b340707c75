-- What a parsed line describes in a program, if no error is found in it.
-- In words: docs/LANGUAGE.md, sections 'Instructions', 'Directives' and 'Jumps'.
use Rattle.std.specs.Prelude.{ℕ, Bool, true, zero, suc, ◌%◌, List, [], ◌∷◌, Option, Some, None, map}
use Rattle.std.specs.List.{flat_map}
use Rattle.asm_parse.specs.declared.item.Item.{Item}
use Rattle.asm_parse.specs.declared.operator.Binary.{Binary}
use Rattle.asm_parse.specs.Expression.{Expression, Leaf, Prefix, Infix}
use Rattle.asm_parse.specs.Source.{Operand, Number, Name, Here}
use Rattle.asm_expr.specs.Below.{Atom, source_tree, tree}
use Rattle.asm_expr.specs.declared.answer.Settled.{Settled}
use Rattle.asm_expr.specs.declared.meaning.Meaning.{Meaning}
use Rattle.asm_expr.specs.Types.{Worth}
use Rattle.asm_expr.specs.Names.{Table, found}
use Rattle.asm_expr.specs.Settling.{replaced, worth}
use Rattle.z80_instr.specs.declared.Instr.{Instr}
use Rattle.z80_instr.specs.declared.ShortCond.{ShortCond}
use Rattle.z80_form.specs.declared.field.Field.{Field}
use Rattle.z80_instr.specs.declared.Branch.{Branch}
use Rattle.asm_spell.specs.Line as line
use Rattle.asm_stmt.specs.Made.{long_jump, ref_of}

-- an item of data: a byte or a word
pub data Datum : Type 0 where
  Byte : Expression Atom → Datum
  Word : Expression Atom → Datum

-- A statement of a program: an instruction with the expressions of its numbers; data; space with one fill byte; a relaxable jump to a ref;
-- or a jump to a ref that is always short.
pub data Statement : Type 0 where
  Code : Instr → List (Field × Expression Atom) → Statement
  Data : List Datum → Statement
  Space : ℕ → ℕ → Statement
  Jump : Option ShortCond → ℕ → Statement
  Short : Branch → ℕ → Statement

-- the ref to which a jump goes
abbrev pub target_of : Statement → Option ℕ
target_of (Jump condition target) = Some target
target_of (Short branch target) = Some target
target_of _ = None

-- what EQU makes of an expression; 0 fills a case that never occurs, since in a statement without an error each name has a value
abbrev pub of_settled : Settled → Expression Atom
of_settled (Settled.Known items) = tree items
of_settled (Settled.Unknown what) = Leaf (Atom.Number 0)

-- what a name stands for; 0 fills such cases here too
abbrev pub meant_expression : Option Meaning → Expression Atom
meant_expression (Some (Meaning.Label r)) = Leaf (Atom.Ref r)
meant_expression (Some (Meaning.External r)) = Leaf (Atom.Ref r)
meant_expression (Some (Meaning.Constant n)) = Leaf (Atom.Number n)
meant_expression (Some (Meaning.Equ equated)) = of_settled equated.settled
meant_expression _ = Leaf (Atom.Number 0)

-- an expression with its names replaced by what they stand for
abbrev pub with_meant : Table → Expression Operand → Expression Atom
with_meant t (Leaf (Number n)) = Leaf (Atom.Number n)
with_meant t (Leaf (Name name)) = meant_expression (found t name)
with_meant t (Leaf Here) = Leaf (Atom.Ref t.here)
with_meant t (Prefix op a) = Prefix op (with_meant t a)
with_meant t (Infix op a b) = Infix op (with_meant t a) (with_meant t b)

abbrev pub replaced_expression : Table → line.ExpressionItems → Expression Atom
replaced_expression t e = with_meant t (source_tree e)

-- the address after a JR or DJNZ at `$`
abbrev pub end_of : Table → Expression Atom
end_of t = Infix Binary.Add (Leaf (Atom.Ref t.here)) (Leaf (Atom.Number 2))

-- What fills a field: the value of the operand. For a distance it is how far the operand is from the end of the instruction.
abbrev pub filling : Table → Field → line.ExpressionItems → Expression Atom
filling t Field.Distance e = Infix Binary.Subtract (replaced_expression t e) (end_of t)
filling t field e = replaced_expression t e

-- the items of DB and of DW
abbrev pub byte_items : Table → line.Value → List Datum
byte_items t (line.Text bytes) = map (λ b. Byte (Leaf (Atom.Number b))) bytes
byte_items t (line.Byte e) = Byte (replaced_expression t e) ∷ []

abbrev pub word_item : Table → line.ExpressionItems → Datum
word_item t e = Word (replaced_expression t e)

-- JP to a name: relaxable if the name is a label or an external.
abbrev pub jump_statement : Option ℕ → Table → Option ShortCond → List ℕ → Statement
jump_statement (Some r) t condition target = Jump condition r
jump_statement None t condition target = Code (long_jump condition 0) ((Field.Word, replaced_expression t (Item.Leaf (Name target) ∷ [])) ∷ [])

-- JR and DJNZ to a name. With --grow a JR is relaxable, as a JP is. To a name that is not a label nor an external it is an error.
abbrev pub short_statement : Bool → Option ℕ → Branch → Option Statement
short_statement true (Some r) (Branch.Relative condition) = Some (Jump condition r)
short_statement grow (Some r) branch = Some (Short branch r)
short_statement grow None branch = None

-- the number of a fixed expression
abbrev pub known_number : Worth → ℕ
known_number (Worth.Number n) = n
known_number _ = 0

abbrev pub fixed_number : Table → line.ExpressionItems → ℕ
fixed_number t e = known_number (worth t (replaced t (source_tree e)))

abbrev pub fill_byte : Table → Option line.ExpressionItems → ℕ
fill_byte t None = 0
fill_byte t (Some e) = fixed_number t e % 256

-- DS 0 is no statement.
abbrev pub spaced : ℕ → ℕ → Option Statement
spaced zero fill = None
spaced (suc n) fill = Some (Space (suc n) fill)

-- the statement of a line; None for PUBLIC, EXTRN, ORG, END and .Z80, which are none
abbrev pub stated : Bool → Table → line.Body → Option Statement
stated grow t (line.Code instr numbers) = Some (Code instr (map (λ n. (n.0, filling t n.0 n.1)) numbers))
stated grow t (line.Jump condition target) = Some (jump_statement (ref_of (found t target)) t condition target)
stated grow t (line.Short branch target) = short_statement grow (ref_of (found t target)) branch
stated grow t (line.Bytes values) = Some (Data (flat_map (byte_items t) values))
stated grow t (line.Words fields) = Some (Data (map (word_item t) fields))
stated grow t (line.Space size fill) = spaced (fixed_number t size) (fill_byte t fill)
stated grow t _ = None
