-- A number in the text of an instruction, by the field of the instruction that the assembler fills with it.
use Rattle.std.specs.Prelude.{ℕ, ◌%◌, List, decimal}
use Rattle.z80_form.specs.declared.field.Field.{Field}
use Rattle.z80_form.specs.Numbers.{signed}
use Rattle.state_text.specs.Printing.Instructions.{byte_number, goal_text, number_with_sign, word_number}

abbrev pub field_text : Field → ℕ → List ℕ
field_text Field.Byte value = byte_number (value % 256)
field_text Field.Word value = word_number value
field_text Field.Displacement value = number_with_sign (signed value)
field_text Field.Distance value = goal_text (signed value)
field_text Field.Bit value = decimal value
field_text Field.Mode value = decimal value
field_text Field.Restart value = byte_number value
