-- What a statement gives its object file once its names are replaced, or the first error of its values.
-- In words: docs/LANGUAGE.md, sections 'Instructions', 'Directives', 'Jumps' and 'What is known when'.
use Rattle.std.specs.Prelude.{◌≢◌, ℕ, zero, suc, ◌-◌, ◌%◌, ◌==◌, ◌&&◌, Bool, false, List, [], ◌∷◌, Option, Some, None, Result, Ok, Err, if◌then◌else◌, All, length, map}
use Rattle.std.specs.List.{AllPass, flat_map, list_all}
use Rattle.std.specs.Option.{IfSome}
use Rattle.common.specs.declared.limits.TheConstants.{FIRST_PLACE}
use Rattle.common.specs.Results.{◌>>=◌}
use Rattle.asm_parse.specs.declared.item.Item.{Item}
use Rattle.asm_parse.specs.Expression.{postfix}
use Rattle.asm_parse.specs.Source.{Name}
use Rattle.asm_expr.specs.Below.{source_tree}
use Rattle.asm_expr.specs.declared.answer.Settled.{Settled}
use Rattle.asm_expr.specs.declared.meaning.Meaning.{Meaning}
use Rattle.asm_expr.specs.Names.{Table, found}
use Rattle.asm_expr.specs.Settling.{is_constant_item, is_known}
use Rattle.z80_instr.specs.declared.Cond.{Cond}
use Rattle.z80_instr.specs.declared.Instr.{Instr}
use Rattle.z80_instr.specs.declared.ShortCond.{ShortCond}
use Rattle.z80_instr.specs.Table.{canonical}
use Rattle.z80_form.specs.declared.field.Field.{Field}
use Rattle.z80_form.specs.Numbers.{with_numbers}
use Rattle.asm_spell.specs.declared.fault.StmtFault.{StmtFault}
use Rattle.z80_instr.specs.declared.Branch.{Branch}
use Rattle.asm_spell.specs.Faults.{each}
use Rattle.asm_spell.specs.Line as line
use Rattle.asm_spell.specs.Line.{Body, ExpressionItems, Value}
use Rattle.asm_stmt.specs.declared.cell.Cell.{Cell}
use Rattle.asm_stmt.specs.declared.cell.Filling.{Filling}
use Rattle.zmo_object.specs.declared.module.hole.Hole.{Hole}
use Rattle.asm_stmt.specs.declared.piece.Made as answer
use Rattle.asm_stmt.specs.declared.piece.Piece as piece
use Rattle.zmo_object.specs.declared.module.hole.Width.{Width}
use Rattle.asm_stmt.specs.Cells.{all_filled, bytes, hole, holes, is_filled, number_or_0}
use Rattle.zmo_object.specs.Holes.{width_size}
use Rattle.asm_stmt.specs.Fields.{field_filling, fixed, is_number_unknown, number, settled_in}

-- What a statement gives an object file: bytes with fix-ups; a jump to a ref that may be short or long; a jump to a ref that is always
-- short; or space, by its size and the byte that fills it.
pub data Piece : Type 0 where
  Bytes : List ℕ → List Hole → Piece
  Jump : Option ShortCond → ℕ → Piece
  Short : Branch → ℕ → Piece
  Space : ℕ → ℕ → Piece

-- What a line makes: nothing; such a piece; or a piece that is not known, because it depends on another line that has an error.
pub data Made : Type 0 where
  Nothing : Made
  Some_piece : Piece → Made
  Unknown : Made

-- DB and DW.

-- a byte of a string, as a field
abbrev pub text_cell : ℕ → Cell
text_cell b = record { width = Width.Byte; filling = Filling.Number b }

-- the one field of an expression
abbrev pub cells : Table → Width → Field → ExpressionItems → Result (List Cell) StmtFault
cells t width field e = field_filling t field e >>= λ f. Ok ((record { width = width; filling = f }) ∷ [])

-- the fields of an item of DB
abbrev pub value_cells : Table → Value → Result (List Cell) StmtFault
value_cells t (line.Text text) = Ok (map text_cell text)
value_cells t (line.Byte e) = cells t Width.Byte Field.Byte e

-- the field of an item of DW
abbrev pub word_cells : Table → ExpressionItems → Result (List Cell) StmtFault
word_cells t e = cells t Width.Word Field.Word e

-- the bytes and fix-ups of these fields, if what fills each is known
abbrev pub cells_made : List Cell → Made
cells_made cells = if all_filled cells then Some_piece (Bytes (bytes cells) (holes 0 cells)) else Unknown

-- the bytes and fix-ups of the fields of all items, or the first error of an item
abbrev pub items_made : Result (List (List Cell)) StmtFault → Result Made StmtFault
items_made read = read >>= λ cells. Ok (cells_made (flat_map (λ some. some) cells))

abbrev pub bytes_made : Table → List Value → Result Made StmtFault
bytes_made t values = items_made (each (value_cells t) values)

abbrev pub words_made : Table → List ExpressionItems → Result Made StmtFault
words_made t fields = items_made (each (word_cells t) fields)

-- Instructions.

-- the numbers of an instruction, each with what fills it
abbrev pub Fillings : Type 0
Fillings = List (Field × Filling)

abbrev pub number_filled : Table → Field × ExpressionItems → Result (Field × Filling) StmtFault
number_filled t n = field_filling t n.0 n.1 >>= λ f. Ok (n.0, f)

abbrev pub fillings : Table → List (Field × ExpressionItems) → Result Fillings StmtFault
fillings t numbers = each (number_filled t) numbers

-- how many bytes a field takes whose value may depend on addresses (those of other kinds are fixed numbers)
abbrev pub field_width : Field → Width
field_width Field.Word = Width.Word
field_width field = Width.Byte

-- A number that depends on addresses takes the last bytes of the instruction.
abbrev pub code_hole : ℕ → Field × Filling → List Hole
code_hole size n = hole (size - width_size (field_width n.0)) (field_width n.0) n.1

abbrev pub coded : Instr → Fillings → Made
coded instr numbers =
    if list_all (λ n. is_filled n.1) numbers
    then Some_piece (Bytes (canonical (with_numbers (map (λ n. (n.0, number_or_0 n.1)) numbers) instr)) (flat_map (code_hole (length (canonical instr))) numbers))
    else Unknown

abbrev pub code : Table → Instr → List (Field × ExpressionItems) → Result Made StmtFault
code t instr numbers = fillings t numbers >>= λ read. Ok (coded instr read)

-- Jumps.

-- the condition of a short jump, as a condition of a long jump
abbrev pub widened : ShortCond → Cond
widened ShortCond.NotZero = Cond.NotZero
widened ShortCond.Zero = Cond.Zero
widened ShortCond.NotCarry = Cond.NotCarry
widened ShortCond.Carry = Cond.Carry

-- JP to an address
abbrev pub long_jump : Option ShortCond → ℕ → Instr
long_jump None to = Instr.Jump to
long_jump (Some condition) to = Instr.JumpIf (widened condition) to

-- the ref of a label or an external
abbrev pub ref_of : Option Meaning → Option ℕ
ref_of (Some (Meaning.Label r)) = Some r
ref_of (Some (Meaning.External r)) = Some r
ref_of _ = None

-- A JP to a label or an external may be short or long. One to a name that EQU defines keeps its three bytes.
abbrev pub jump_by : Option ℕ → Table → Option ShortCond → List ℕ → Result Made StmtFault
jump_by (Some r) t condition target = Ok (Some_piece (Jump condition r))
jump_by None t condition target = code t (long_jump condition 0) ((Field.Word, Item.Leaf (Name target) ∷ []) ∷ [])

abbrev pub short_by : Option ℕ → Branch → Result Made StmtFault
short_by (Some r) branch = Ok (Some_piece (Short branch r))
short_by None branch = Err StmtFault.ShortNeedsLabel

-- DS.

-- the fill byte of a DS, 0 if there is none
abbrev pub space_fill : Table → Option ExpressionItems → Result Filling StmtFault
space_fill t None = Ok (Filling.Number 0)
space_fill t (Some e) = settled_in t e >>= fixed Field.Byte

-- the size of a DS, which may only contain constants
abbrev pub space_size : Table → ExpressionItems → Result Settled StmtFault
space_size t e = settled_in t e >>= λ s. if list_all (is_constant_item t) (postfix (source_tree e)) then Ok s else Err StmtFault.SizeNamesLabel

-- DS 0 makes nothing.
abbrev pub spaced_by : ℕ → Filling → Made
spaced_by zero fill = Nothing
spaced_by (suc n) (Filling.Number fill) = Some_piece (Space (suc n) (fill % 256))
spaced_by (suc n) fill = Unknown

abbrev pub space_of_size : Option ℕ → Filling → Made
space_of_size (Some n) fill = spaced_by n fill
space_of_size None fill = Unknown

abbrev pub number_in : Settled → Option ℕ
number_in (Settled.Known items) = number items
number_in (Settled.Unknown what) = None

abbrev pub space_made : Table → ExpressionItems → Option ExpressionItems → Result Made StmtFault
space_made t size fill = space_size t size >>= λ s. space_fill t fill >>= λ f. Ok (space_of_size (number_in s) f)

-- An ORG has to be 0100H and come before any statement. If its number is not known, because another line has an error, it is accepted.
abbrev pub origin_by : Option ℕ → Bool
origin_by (Some n) = n == FIRST_PLACE
origin_by None = false

abbrev pub is_origin : Settled → Bool
is_origin (Settled.Known items) = origin_by (number items)
is_origin (Settled.Unknown what) = is_number_unknown what

abbrev pub origin : Table → ExpressionItems → Result Made StmtFault
origin t e = settled_in t e >>= λ s. if (t.here == 0) && is_origin s then Ok Nothing else Err StmtFault.BadOrg

-- Statements of any kind.

-- What a statement makes; PUBLIC, EXTRN, END and .Z80 make nothing. Its names are defined (`AreDefined`), or it has an error already.
abbrev pub made : Table → Body → Result Made StmtFault
made t (line.Code instr numbers) = code t instr numbers
made t (line.Jump condition target) = jump_by (ref_of (found t target)) t condition target
made t (line.Short branch target) = short_by (ref_of (found t target)) branch
made t (line.Bytes values) = bytes_made t values
made t (line.Words fields) = words_made t fields
made t (line.Space size fill) = space_made t size fill
made t (line.Origin e) = origin t e
made t _ = Ok Nothing

-- Each name in a statement's operands stands for something.
abbrev pub IsDefined : Table → ExpressionItems → Type 0
IsDefined t e = AllPass (is_known t) e

abbrev pub ValueDefined : Table → Value → Type 0
ValueDefined t (line.Text text) = Unit {0}
ValueDefined t (line.Byte e) = IsDefined t e

abbrev pub AreDefined : Table → Body → Type 0
AreDefined t (line.Code instr numbers) = All (λ n. IsDefined t n.1) numbers
AreDefined t (line.Jump condition target) = found t target ≢ None
AreDefined t (line.Short branch target) = found t target ≢ None
AreDefined t (line.Bytes values) = All (ValueDefined t) values
AreDefined t (line.Words fields) = All (IsDefined t) fields
AreDefined t (line.Space size fill) = IsDefined t size × IfSome fill (IsDefined t)
AreDefined t (line.Origin e) = IsDefined t e
AreDefined t _ = Unit {0}

-- What the values of the code's types are in the definitions.

abbrev pub piece_of : piece.Piece → Piece
piece_of (piece.TheVariants.Bytes bytes holes) = Bytes bytes.items holes.items
piece_of (piece.TheVariants.Jump condition target) = Jump condition target
piece_of (piece.TheVariants.Short branch target) = Short branch target
piece_of (piece.TheVariants.Space size fill) = Space size fill

abbrev pub made_of : answer.Made → Made
made_of answer.TheVariants.Nothing = Nothing
made_of (answer.TheVariants.Piece p) = Some_piece (piece_of p)
made_of answer.TheVariants.Unknown = Unknown
