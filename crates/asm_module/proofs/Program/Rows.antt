-- The laws about the numbers of instructions that are used here.
use Rattle.std.proofs.Common.{◌≡◌, ◌≢◌, ℕ, ◌%◌, [], ◌∷◌, ◌++◌, Some, true, length}
use Rattle.z80_instr.specs.Codes.{in_range}
use Rattle.z80_instr.specs.Table.{canonical, word}
use Rattle.z80_instr.specs.declared.Instr.{Instr}
use Rattle.z80_form.specs.declared.field.Field.{Field}
use Rattle.z80_form.specs.declared.form.Form.{Form}
use Rattle.z80_form.specs.Numbers.{allows, but_last, field_of, number_field, with_number}

pub record Rows : Type 0 where
  pub field : (field : Field) (value : ℕ) (instr : Instr) (form : Form) → field_of (with_number field value instr) form ≡ field_of instr form
  pub size : (field : Field) (value : ℕ) (instr : Instr) → length (canonical (with_number field value instr)) ≡ length (canonical instr)
  pub range : (field : Field) (value : ℕ) (instr : Instr) → allows field value ≡ true → in_range instr ≡ true → in_range (with_number field value instr) ≡ true
  pub number : (instr : Instr) → number_field instr ≢ Some Field.Displacement
  pub byte : (instr : Instr) (value : ℕ) → number_field instr ≡ Some Field.Byte → canonical (with_number Field.Byte value instr) ≡ but_last 1 (canonical instr) ++ value % 256 ∷ []
  pub word : (instr : Instr) (value : ℕ) → number_field instr ≡ Some Field.Word → canonical (with_number Field.Word value instr) ≡ but_last 2 (canonical instr) ++ word value
