-- The parts of an instruction's row, as the code has them.
use Rattle.std.specs.Prelude.{List, [], ◌∷◌, Option, Some, None}
use Rattle.z80_form.specs.Rows.{Row}
use Rattle.z80_form.specs.declared.form.Form.{Form}
use Rattle.z80_form.specs.declared.mnemonic.Mnemonic.{Mnemonic}
use Rattle.state_text.specs.declared.printing.row.Operands.{Operands}
use Rattle.state_text.specs.declared.printing.row.Operands.TheVariants as operands

abbrev pub forms_of : Operands → List Form
forms_of operands.Empty = []
forms_of (operands.One operand) = operand ∷ []
forms_of (operands.Two left right) = left ∷ right ∷ []

-- the mnemonic of a row without operands
abbrev pub if_empty : List Form → Mnemonic → Option Mnemonic
if_empty [] mnemonic = Some mnemonic
if_empty (operand ∷ operands) mnemonic = None

abbrev pub mnemonic_alone : Row → Option Mnemonic
mnemonic_alone row = if_empty row.operands row.mnemonic
