-- When bytes are those of a statement of a program, at given addresses.
use Rattle.std.specs.Prelude.{◌≡◌, ℕ, ◌+◌, ◌/◌, ◌%◌, Bool, List, [], ◌∷◌, Some, None, if◌then◌else◌, length, map, replicate, ℤ, pos, ◌+ℤ◌}
use Rattle.std.specs.Bool.{MatchBool}
use Rattle.std.specs.List.{flat_map, sum_by}
use Rattle.asm_parse.specs.Expression.{Expression}
use Rattle.asm_expr.specs.Below.{Atom, value}
use Rattle.asm_expr.specs.Types.{Statement as Size}
use Rattle.z80_instr.specs.declared.Instr.{Instr}
use Rattle.z80_instr.specs.Table.{canonical}
use Rattle.z80_instr.specs.Codes.{Codes}
use Rattle.z80_form.specs.declared.field.Field.{Field}
use Rattle.z80_form.specs.Numbers.{with_numbers}
use Rattle.z80_instr.specs.declared.Branch.{Branch}
use Rattle.asm_stmt.specs.Made.{long_jump}
use Rattle.asm_module.specs.Program.Statement as statement
use Rattle.asm_module.specs.Program.Statement.{Datum, Statement}

-- JR or DJNZ with this displacement
abbrev pub short_jump : Branch → ℤ → Instr
short_jump (Branch.Relative None) e = Instr.JumpRelative e
short_jump (Branch.Relative (Some condition)) e = Instr.JumpRelativeIf condition e
short_jump Branch.CountDown e = Instr.Djnz e

-- the bytes are a short jump at one address whose displacement, counted from its end, leads to the other
abbrev pub IsShortJump : ℕ → ℕ → Branch → List ℕ → Type 0
IsShortJump from to branch bytes = (e : ℤ) × (pos (from + 2) +ℤ e ≡ pos to) × Codes (short_jump branch e) bytes

-- the bytes of an item of data; of a word, the low byte first
abbrev pub datum_bytes : (ℕ → ℕ) → Datum → List ℕ
datum_bytes places (statement.Byte e) = value places e % 256 ∷ []
datum_bytes places (statement.Word e) = value places e % 256 ∷ value places e / 256 ∷ []

-- the values of the expressions in an instruction
abbrev pub valued : (ℕ → ℕ) → List (Field × Expression Atom) → List (Field × ℕ)
valued places numbers = map (λ n. (n.0, value places n.1)) numbers

-- The bytes are those of a statement, given its address, whether it is long, and the address of each ref.
abbrev pub IsPiece : ℕ → Bool → (ℕ → ℕ) → Statement → List ℕ → Type 0
IsPiece at long places (statement.Code instr numbers) bytes = Codes (with_numbers (valued places numbers) instr) bytes
IsPiece at long places (statement.Data items) bytes = bytes ≡ flat_map (datum_bytes places) items
IsPiece at long places (statement.Space n fill) bytes = bytes ≡ replicate n fill
IsPiece at long places (statement.Jump condition target) bytes = MatchBool long (Codes (long_jump condition (places target)) bytes) (IsShortJump at (places target) (Branch.Relative condition) bytes)
IsPiece at long places (statement.Short branch target) bytes = IsShortJump at (places target) branch bytes

-- The size of a statement.
abbrev pub width : Datum → ℕ
width (statement.Byte e) = 1
width (statement.Word e) = 2

abbrev pub statement_size : Statement → Size
statement_size (statement.Code instr numbers) = Size.Sized (length (canonical instr))
statement_size (statement.Data items) = Size.Sized (sum_by width items)
statement_size (statement.Space n fill) = Size.Sized n
statement_size (statement.Jump condition target) = Size.Relaxable
statement_size (statement.Short branch target) = Size.Sized 2

-- how many bytes a statement takes, by whether it is long
abbrev pub takes : Bool → Size → ℕ
takes long (Size.Sized n) = n
takes long Size.Relaxable = if long then 3 else 2
takes long Size.Unsized = 0
