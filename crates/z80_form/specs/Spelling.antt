-- Which mnemonic and operands are a source form of which instruction.
-- In words: docs/LANGUAGE.md, section 'Instructions'.
use Rattle.std.specs.Prelude.{◌≡◌, ◌⊎◌, List, Option, map, pos}
use Rattle.z80_form.specs.Types.{Instr, Form, Mnemonic}
use Rattle.z80_form.specs.Rows.{row}
use Rattle.z80_form.specs.Numbers.{with_displacement}
use Rattle.z80_form.specs.Private.Reading.{instruction_read}

-- a form without its displacement: `(IX)` stands for `(IX+0)`
abbrev pub without_displacement : Form → Form
without_displacement (Form.Displaced x) = Form.AtIndex x
without_displacement form = form

-- The operands are those of the instruction's row; or the displacement is 0 and they are those of the row with `(IX)` for `(IX+d)`.
abbrev pub AreOperands : List Form → Instr → Type 0
AreOperands operands instr =
    (operands ≡ (row instr).operands)
    ⊎ ((operands ≡ map without_displacement (row instr).operands) × (with_displacement (pos 0) instr ≡ instr))

-- The mnemonic and the operands are a source form of the instruction, whatever its other numbers are.
pub record Spells (mnemonic : Mnemonic) (operands : List Form) (instr : Instr) : Type 0 where
  pub mnemonic_is : (row instr).mnemonic ≡ mnemonic
  pub operands_are : AreOperands operands instr

-- The instruction, with zeros in place of its numbers, that a mnemonic and operands are a source form of. It is here for
-- definitions about that instruction. Nobody has to follow how it is found: laws::spelled says that it is what Spells means.
unfoldable pub instruction_of : Mnemonic → List Form → Option Instr
instruction_of mnemonic operands = instruction_read mnemonic operands
