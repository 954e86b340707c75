-- The numbers of an instruction of a line.
use Rattle.std.specs.Prelude.{◌≡◌, ◌⊎◌, List, Ok, map}
use Rattle.std.specs.List.{filter_map}
use Rattle.asm_line.specs.Tokens.{Lexeme}
use Rattle.z80_instr.specs.declared.Instr.{Instr}
use Rattle.z80_form.specs.declared.mnemonic.Mnemonic.{Mnemonic}
use Rattle.z80_form.specs.declared.field.Field.{Field}
use Rattle.z80_form.specs.Numbers.{with_zeros, fields, fields_of, number_fields}
use Rattle.z80_form.specs.Spelling.{Spells}
use Rattle.asm_spell.specs.Faults.{each}
use Rattle.asm_spell.specs.Line.{ExpressionItems}
use Rattle.asm_spell.specs.Operands as cut
use Rattle.asm_spell.specs.Operands.{WrittenOperand, written_operand}

-- The tokens after a word are the operands of this instruction, which has zeros in place of its numbers. The numbers are the
-- expressions of the operands, none left out, each with the field that it fills.
pub record IsNumbered (tokens : List Lexeme) (instr : Instr) (numbers : List (Field × ExpressionItems)) : Type 0 where
  pub mnemonic : Mnemonic
  pub operands : List WrittenOperand
  pub read : each written_operand (cut.operands tokens) ≡ Ok operands
  pub spelled : Spells mnemonic (map (λ w. w.form) operands) instr
  pub zeros : with_zeros instr ≡ instr
  pub fields_are : map (λ n. n.0) numbers ≡ fields_of instr (map (λ w. w.form) operands)
  pub expressions_are : map (λ n. n.1) numbers ≡ filter_map (λ w. w.expression) operands

-- The numbers fill all fields of the instruction, or all but its displacement, since `(IX)` stands for `(IX+0)`.
abbrev pub FillFields : Instr → List (Field × ExpressionItems) → Type 0
FillFields instr numbers = (map (λ n. n.0) numbers ≡ fields instr) ⊎ (map (λ n. n.0) numbers ≡ number_fields instr)
