-- Parsed lines, without where they are in memory. Names are in upper case.
use Rattle.std.specs.Prelude.{ℕ, List, Option, map, Vec}
use Rattle.std.specs.Option.{option_map}
use Rattle.std.specs.Global.{Global}
use Rattle.smallvec.specs.SmallVec.{SmallVec}
use Rattle.asm_parse.specs.declared.item.Item.{Item}
use Rattle.asm_parse.specs.Few.{all}
use Rattle.asm_parse.specs.Source.{Operand}
use Rattle.z80_instr.specs.declared.Instr.{Instr}
use Rattle.z80_instr.specs.declared.ShortCond.{ShortCond}
use Rattle.z80_form.specs.declared.field.Field.{Field}
use Rattle.z80_instr.specs.declared.Branch.{Branch}
use Rattle.asm_spell.specs.declared.line.Value as value
use Rattle.asm_spell.specs.declared.line.Body as body
use Rattle.asm_spell.specs.declared.line.Line as line

-- the items of an expression, in postfix order
abbrev pub ExpressionItems : Type 0
ExpressionItems = List (Item Operand)

-- an item of DB: the bytes of a string, or one byte
pub data Value : Type 0 where
  Text : List ℕ → Value
  Byte : ExpressionItems → Value

-- A word and its operands: an instruction with zeros in place of its numbers, and their expressions; a relaxable jump to a name; a
-- jump to a name that is always short; or a directive.
pub data Body : Type 0 where
  Code : Instr → List (Field × ExpressionItems) → Body
  Jump : Option ShortCond → List ℕ → Body
  Short : Branch → List ℕ → Body
  Bytes : List Value → Body
  Words : List ExpressionItems → Body
  Space : ExpressionItems → Option ExpressionItems → Body
  Public : List (List ℕ) → Body
  External : List (List ℕ) → Body
  Origin : ExpressionItems → Body
  End : Option (List ℕ) → Body
  Z80 : Body

-- The definition of a name by EQU; or a label and a statement, each if the line has one.
pub data Line : Type 0 where
  Equ : List ℕ → ExpressionItems → Line
  Statement : Option (List ℕ) → Option Body → Line

-- The code's types in these terms.

abbrev pub value_of : value.Value → Value
value_of (value.TheVariants.Text bytes) = Text bytes.items
value_of (value.TheVariants.Byte e) = Byte e

abbrev pub name_texts : List (Vec ℕ Global) → List (List ℕ)
name_texts names = map (λ name. name.items) names

abbrev pub listed_names : List (SmallVec ℕ) → List (List ℕ)
listed_names names = map (λ name. name.items) names

abbrev pub body_of : body.Body → Body
body_of (body.TheVariants.Code instr numbers) = Code instr (all numbers)
body_of (body.TheVariants.Jump condition target) = Jump condition target.items
body_of (body.TheVariants.Short branch target) = Short branch target.items
body_of (body.TheVariants.Bytes values) = Bytes (map value_of values.items)
body_of (body.TheVariants.Words fields) = Words fields.items
body_of (body.TheVariants.Space size fill) = Space size fill
body_of (body.TheVariants.Public names) = Public (listed_names names.items)
body_of (body.TheVariants.External names) = External (listed_names names.items)
body_of (body.TheVariants.Origin e) = Origin e
body_of (body.TheVariants.End entry) = End (option_map (λ name. name.items) entry)
body_of body.TheVariants.Z80 = Z80

abbrev pub line_of : line.Line → Line
line_of (line.TheVariants.Equ name e) = Equ name.items e
line_of (line.TheVariants.Statement label spelled) = Statement (option_map (λ name. name.items) label) (option_map body_of spelled)
