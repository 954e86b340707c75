-- What fills a field of one or two bytes: its value, or the error of a value that is out of range.
-- In words: docs/LANGUAGE.md, section 'What is known when'.
use Rattle.std.specs.Prelude.{◌≡◌, ℕ, ◌+◌, ◌%◌, Bool, true, false, List, [], ◌∷◌, Option, Some, None, Result, Ok, Err, if◌then◌else◌}
use Rattle.common.specs.Results.{◌>>=◌}
use Rattle.asm_parse.specs.declared.fault.ExprFault.{ExprFault}
use Rattle.asm_parse.specs.declared.item.Item.{Item}
use Rattle.asm_expr.specs.Below.{Atom, source_tree}
use Rattle.asm_expr.specs.declared.answer.Settled.{Settled}
use Rattle.asm_expr.specs.declared.unknown.Unknown.{Unknown}
use Rattle.asm_expr.specs.declared.here.Offset.{Offset}
use Rattle.asm_expr.specs.Names.{Table}
use Rattle.asm_expr.specs.Offsets.{offset}
use Rattle.asm_expr.specs.Settling.{fault, settled}
use Rattle.z80_form.specs.declared.field.Field.{Field}
use Rattle.z80_form.specs.Numbers.{allows}
use Rattle.asm_spell.specs.declared.fault.StmtFault.{StmtFault}
use Rattle.asm_spell.specs.Faults.{of_expression}
use Rattle.asm_spell.specs.Line.{ExpressionItems}
use Rattle.asm_stmt.specs.declared.cell.Filling.{Filling}
use Rattle.zmo_object.specs.Holes.{ends_in_byte}

-- an expression that is just one number
abbrev pub number : List (Item Atom) → Option ℕ
number (Item.Leaf (Atom.Number n) ∷ []) = Some n
number _ = None

-- an expression without a value may still turn out to be one number; false if it is known to depend on addresses
abbrev pub is_number_unknown : Unknown → Bool
is_number_unknown Unknown.Anything = true
is_number_unknown Unknown.Number = true
is_number_unknown _ = false

-- A byte takes a number from -128 to 255. If the value depends on addresses, it has to be HIGH or LOW of something.
abbrev pub byte_by : Option ℕ → List (Item Atom) → Result Filling StmtFault
byte_by (Some n) items = if allows Field.Byte n then Ok (Filling.Number n) else Err StmtFault.ByteRange
byte_by None items = if ends_in_byte items then Ok (Filling.Varying items) else Err StmtFault.NeedsLowOrHigh

abbrev pub byte : Settled → Result Filling StmtFault
byte (Settled.Known items) = byte_by (number items) items
byte (Settled.Unknown Unknown.Varies) = Err StmtFault.NeedsLowOrHigh
byte (Settled.Unknown what) = Ok Filling.Unknown

-- A word takes any value.
abbrev pub word_filling_by : Option ℕ → List (Item Atom) → Filling
word_filling_by (Some n) items = Filling.Number n
word_filling_by None items = Filling.Varying items

abbrev pub word_filling : Settled → Filling
word_filling (Settled.Known items) = word_filling_by (number items) items
word_filling (Settled.Unknown what) = Filling.Unknown

-- A displacement, a bit number, an interrupt mode, the address of RST and a fill byte have to be numbers in their range.
abbrev pub fixed_by : Field → Option ℕ → Result Filling StmtFault
fixed_by field (Some n) = if allows field n then Ok (Filling.Number n) else Err StmtFault.ByteRange
fixed_by field None = Err StmtFault.NeedsNumber

abbrev pub fixed : Field → Settled → Result Filling StmtFault
fixed field (Settled.Known items) = fixed_by field (number items)
fixed field (Settled.Unknown what) = if is_number_unknown what then Ok Filling.Unknown else Err StmtFault.NeedsNumber

-- how far the target of JR or DJNZ is from the end of the instruction, which is two bytes after `$`
abbrev pub from_end : ℕ → ℕ
from_end n = (n + 65534) % 65536

-- If the operand of JR or DJNZ is not a name, it has to be `$` plus or minus a constant.
abbrev pub distance_filling : Offset → Result Filling StmtFault
distance_filling (Offset.Number n) = if allows Field.Distance (from_end n) then Ok (Filling.Number (from_end n)) else Err StmtFault.ByteRange
distance_filling Offset.Unknown = Ok Filling.Unknown
distance_filling _ = Err StmtFault.ShortNeedsLabel

-- if the operand has another form, that is the error; otherwise the errors of its expression come first
abbrev pub distance_or : Option ExprFault → Offset → Result Filling StmtFault
distance_or f Offset.Other = Err StmtFault.ShortNeedsLabel
distance_or (Some why) said = Err (of_expression why)
distance_or None said = distance_filling said

abbrev pub as_stmt : {A : Type 0} → Result A ExprFault → Result A StmtFault
as_stmt (Ok x) = Ok x
as_stmt (Err why) = Err (of_expression why)

-- the value of an expression once its names are replaced
abbrev pub settled_in : Table → ExpressionItems → Result Settled StmtFault
settled_in t e = as_stmt (settled t (source_tree e))

-- What fills a field of an instruction, or a byte or word of data.
abbrev pub field_filling : Table → Field → ExpressionItems → Result Filling StmtFault
field_filling t Field.Distance e = distance_or (fault t (source_tree e)) (offset t (source_tree e))
field_filling t Field.Byte e = settled_in t e >>= byte
field_filling t Field.Word e = settled_in t e >>= λ s. Ok (word_filling s)
field_filling t field e = settled_in t e >>= fixed field

-- if the field is filled by a number, it is in the field's range
abbrev pub IsAllowed : Field → Filling → Type 0
IsAllowed field (Filling.Number n) = allows field n ≡ true
IsAllowed field _ = Unit {0}
