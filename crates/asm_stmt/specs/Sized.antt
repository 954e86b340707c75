-- How many bytes a statement takes. This depends on its names, but not on addresses.
-- In words: docs/LANGUAGE.md, section 'Directives'.
use Rattle.std.specs.Prelude.{◌≡◌, ◌≤◌, ℕ, zero, suc, ◌*◌, List, Option, Some, None, Result, Ok, Err, length}
use Rattle.std.specs.List.{sum_by}
use Rattle.asm_expr.specs.declared.answer.Settled.{Settled}
use Rattle.asm_expr.specs.declared.meaning.Meaning.{Meaning}
use Rattle.asm_expr.specs.Types.{Statement}
use Rattle.asm_expr.specs.Names.{Table, found}
use Rattle.z80_instr.specs.Table.{canonical}
use Rattle.asm_spell.specs.declared.fault.StmtFault.{StmtFault}
use Rattle.asm_spell.specs.Few.{IsCount, value_size}
use Rattle.asm_spell.specs.Line as line
use Rattle.asm_spell.specs.Line.{Body}
use Rattle.asm_stmt.specs.Made as made
use Rattle.asm_stmt.specs.Made.{Piece, number_in, ref_of, space_size}

-- the size of a piece
abbrev pub piece_sized : Piece → Statement
piece_sized (made.Bytes blank holes) = Statement.Sized (length blank)
piece_sized (made.Space n fill) = Statement.Sized n
piece_sized (made.Jump condition target) = Statement.Relaxable
piece_sized (made.Short branch target) = Statement.Sized 2

-- A JP to a label or an external is relaxable; to any other name it takes three bytes.
abbrev pub jump_sized : Option ℕ → Statement
jump_sized (Some r) = Statement.Relaxable
jump_sized None = Statement.Sized 3

-- the size of a DS, if it is known
abbrev pub size_in : Result Settled StmtFault → Option ℕ
size_in (Ok s) = number_in s
size_in (Err why) = None

-- DS 0 is no statement.
abbrev pub space_sized : Option ℕ → Option Statement
space_sized (Some zero) = None
space_sized (Some (suc n)) = Some (Statement.Sized (suc n))
space_sized None = Some Statement.Unsized

-- The size of the statement that a line makes, or None if it makes none. The size of a DS may be unknown: because it has an error, or
-- because a name in it has no value. Directives other than DB, DW and DS make no statement.
abbrev pub sized : Table → Body → Option Statement
sized t (line.Code instr numbers) = Some (Statement.Sized (length (canonical instr)))
sized t (line.Jump condition target) = Some (jump_sized (ref_of (found t target)))
sized t (line.Short branch target) = Some (Statement.Sized 2)
sized t (line.Bytes values) = Some (Statement.Sized (sum_by value_size values))
sized t (line.Words fields) = Some (Statement.Sized (2 * length fields))
sized t (line.Space size fill) = space_sized (size_in (space_size t size))
sized t _ = None

-- A piece of bytes has 1 to 65,535 of them, and space has one at least.
abbrev pub TakesFew : Piece → Type 0
TakesFew (made.Bytes blank holes) = IsCount (length blank)
TakesFew (made.Space n fill) = 1 ≤ n
TakesFew (made.Jump condition target) = Unit {0}
TakesFew (made.Short branch target) = Unit {0}

-- What the size of a statement depends on in a name's meaning: whether the name is a label or an external, or which number it is. All other
-- names are `Neither`: a name whose EQU is not constant, one whose value is not known, and one that is not defined.
pub data Kind : Type 0 where
  Place : Kind
  Number : ℕ → Kind
  Neither : Kind

abbrev pub kind : Option Meaning → Kind
kind (Some (Meaning.Label r)) = Place
kind (Some (Meaning.External r)) = Place
kind (Some (Meaning.Constant n)) = Number n
kind _ = Neither

-- Each name has the same kind in both tables, and the same number if it is one.
abbrev pub IsLike : Table → Table → Type 0
IsLike t u = (name : List ℕ) → kind (found t name) ≡ kind (found u name)
