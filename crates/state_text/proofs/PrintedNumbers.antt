-- The numbers in an instruction's text are those of its fields: one equation for each row of the table that has a number.
use Rattle.std.proofs.Common.{◌≡◌, ◌∙◌, ◌<◌, ◌+◌, ◌*◌, ◌/◌, ◌%◌, ◌∷◌, ℕ, [], None, IfSome, true, ap, arith, decimal, refl, sym}
use Rattle.std.specs.Prelude.{◌==◌}
use Rattle.std.proofs.lemmas.Fmt.{decimal_digit}
use Rattle.std.proofs.lemmas.Bool.{and_parts, eqb-true, ltb-true}
use Rattle.z80_instr.specs.Table.{octal_code, octal_of}
use Rattle.z80_instr.proofs.Finite.{agree_below}
use Rattle.z80_form.specs.Types.{Instr, Memory, Operand, Pointer}
use Rattle.z80_form.specs.declared.field.Field.{Field}
use Rattle.z80_form.specs.Numbers.{allows, has_displacement, memory_at, memory_is_displaced, mode_of, number_field, operand_at, operand_is_displaced, signed, with_number}
use Rattle.state_text.specs.Printing.Fields.{field_text}
use Rattle.state_text.specs.Printing.Instructions.{byte_number, instr_displacement, instr_number, memory_displacement, mode_text, number_with_sign, operand_displacement}

octal_is : (n : ℕ) → n < 8 → octal_code (octal_of n) ≡ n
octal_is = agree_below (λ n. octal_code (octal_of n)) (λ n. n) 8 refl

bit_is : (n : ℕ) → allows Field.Bit n ≡ true → octal_code (octal_of n) ≡ n
bit_is n ok = octal_is n (ltb-true n 8 ok)

mode_is : (n : ℕ) → allows Field.Mode n ≡ true → mode_text (mode_of n) ≡ decimal n
mode_is n ok =
    let below : n < 3 = ltb-true n 3 ok in
    agree_below (λ n. mode_text (mode_of n)) (λ n. (48 + n) ∷ []) 3 refl n below ∙ sym (decimal_digit n (omega arith))

restart_is : (n : ℕ) → allows Field.Restart n ≡ true → 8 * octal_code (octal_of (n / 8)) ≡ n
restart_is n ok =
    let parts = and_parts _ (n % 8 == 0) ok in
    let below : n < 64 = ltb-true n 64 parts.0 in
    let whole : n % 8 ≡ 0 = eqb-true (n % 8) 0 parts.1 in
    let few : n / 8 < 8 = omega arith in
    let least : 8 * (n / 8) ≡ n = omega arith in
    ap (λ k. 8 * k) (octal_is (n / 8) few) ∙ least

pub number_is : (instr : Instr) (value : ℕ) → IfSome (number_field instr) (λ field. allows field value ≡ true → instr_number (with_number field value instr) ≡ field_text field value)
number_is (Instr.LoadByte m n) value = λ ok. refl
number_is (Instr.LoadA (Pointer.Address nn)) value = λ ok. refl
number_is (Instr.StoreA (Pointer.Address nn)) value = λ ok. refl
number_is (Instr.LoadWord dd nn) value = λ ok. refl
number_is (Instr.LoadWordFrom dd nn) value = λ ok. refl
number_is (Instr.StoreWord dd nn) value = λ ok. refl
number_is (Instr.AluByte operation n) value = λ ok. refl
number_is (Instr.Im mode) value = λ ok. mode_is value ok
number_is (Instr.Bit b m) value = λ ok. ap decimal (bit_is value ok)
number_is (Instr.Set b m) value = λ ok. ap decimal (bit_is value ok)
number_is (Instr.Res b m) value = λ ok. ap decimal (bit_is value ok)
number_is (Instr.Jump nn) value = λ ok. refl
number_is (Instr.JumpIf cc nn) value = λ ok. refl
number_is (Instr.JumpRelative e) value = λ ok. refl
number_is (Instr.JumpRelativeIf cc e) value = λ ok. refl
number_is (Instr.Djnz e) value = λ ok. refl
number_is (Instr.Call nn) value = λ ok. refl
number_is (Instr.CallIf cc nn) value = λ ok. refl
number_is (Instr.Restart t) value = λ ok. ap byte_number (restart_is value ok)
number_is (Instr.InA n) value = λ ok. refl
number_is (Instr.OutA n) value = λ ok. refl
number_is _ value = tt

-- Displacements.

memory_is : (m : Memory) (value : ℕ) → memory_is_displaced m ≡ true → memory_displacement (memory_at (signed value) m) ≡ signed value
memory_is Memory.Hl value displaced = absurd (cc)
memory_is (Memory.Indexed x d) value displaced = refl

operand_is : (s : Operand) (value : ℕ) → operand_is_displaced s ≡ true → operand_displacement (operand_at (signed value) s) ≡ signed value
operand_is (Operand.Register r) value displaced = absurd (cc)
operand_is (Operand.Memory m) value displaced = memory_is m value displaced

put_in : (instr : Instr) (value : ℕ) → has_displacement instr ≡ true → instr_displacement (with_number Field.Displacement value instr) ≡ signed value
put_in (Instr.Load r s) value displaced = operand_is s value displaced
put_in (Instr.Store m r) value displaced = memory_is m value displaced
put_in (Instr.LoadByte m n) value displaced = operand_is m value displaced
put_in (Instr.Alu operation s) value displaced = operand_is s value displaced
put_in (Instr.Inc m) value displaced = operand_is m value displaced
put_in (Instr.Dec m) value displaced = operand_is m value displaced
put_in (Instr.Rotate rotation m) value displaced = operand_is m value displaced
put_in (Instr.Bit b m) value displaced = operand_is m value displaced
put_in (Instr.Set b m) value displaced = operand_is m value displaced
put_in (Instr.Res b m) value displaced = operand_is m value displaced
put_in _ value displaced = absurd (cc)

pub displacement_is : (instr : Instr) (value : ℕ) → has_displacement instr ≡ true → number_with_sign (instr_displacement (with_number Field.Displacement value instr)) ≡ field_text Field.Displacement value
displacement_is instr value displaced = ap number_with_sign (put_in instr value displaced)

-- Instructions without a number.

pub no_number : (instr : Instr) → number_field instr ≡ None → instr_number instr ≡ []
no_number (Instr.LoadByte m n) none = absurd (cc)
no_number (Instr.LoadA Pointer.Bc) none = refl
no_number (Instr.LoadA Pointer.De) none = refl
no_number (Instr.LoadA (Pointer.Address nn)) none = absurd (cc)
no_number (Instr.StoreA Pointer.Bc) none = refl
no_number (Instr.StoreA Pointer.De) none = refl
no_number (Instr.StoreA (Pointer.Address nn)) none = absurd (cc)
no_number (Instr.LoadWord dd nn) none = absurd (cc)
no_number (Instr.LoadWordFrom dd nn) none = absurd (cc)
no_number (Instr.StoreWord dd nn) none = absurd (cc)
no_number (Instr.AluByte operation n) none = absurd (cc)
no_number (Instr.Im mode) none = absurd (cc)
no_number (Instr.Bit b m) none = absurd (cc)
no_number (Instr.Set b m) none = absurd (cc)
no_number (Instr.Res b m) none = absurd (cc)
no_number (Instr.Jump nn) none = absurd (cc)
no_number (Instr.JumpIf cond nn) none = absurd (cc)
no_number (Instr.JumpRelative e) none = absurd (cc)
no_number (Instr.JumpRelativeIf cond e) none = absurd (cc)
no_number (Instr.Djnz e) none = absurd (cc)
no_number (Instr.Call nn) none = absurd (cc)
no_number (Instr.CallIf cond nn) none = absurd (cc)
no_number (Instr.Restart t) none = absurd (cc)
no_number (Instr.InA n) none = absurd (cc)
no_number (Instr.OutA n) none = absurd (cc)
no_number _ none = refl
