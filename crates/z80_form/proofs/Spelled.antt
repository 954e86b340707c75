-- An instruction keeps its source form when a number is put into a field of one of its operands.
use Rattle.std.proofs.Common.{◌≡◌, ◌≢◌, ℕ, inl, inr, Bool, true, false, List, [], ◌∷◌, Option, Some, None, All, refl, ap, sym, ◌∙◌, map, ℤ, pos, subst}
use Rattle.std.specs.List.{Contains, cons_option}
use Rattle.std.proofs.lemmas.List.Elements.{All-nil, All-cons, All-head, All-tail, All-contains}
use Rattle.z80_form.specs.Types.{Pointer, Octal, InterruptMode, Instr, Form, Field, Mnemonic}
use Rattle.z80_form.specs.Rows.{row}
use Rattle.z80_form.specs.Numbers.{field_of, fields_of, number_field, with_byte, with_word_operand, with_displacement, with_distance, with_bit, with_mode, with_restart, with_number, with_numbers}
use Rattle.z80_form.specs.Spelling.{without_displacement, AreOperands, Spells}
use Rattle.z80_form.proofs.Kept.{row_steady, field_steady}

-- The number field of an instruction is no displacement.

abbrev is_displacement : Option Field → Bool
is_displacement (Some Field.Displacement) = true
is_displacement _ = false

number_is_other : (i : Instr) → is_displacement (number_field i) ≡ false
number_is_other (Instr.LoadA Pointer.Bc) = refl
number_is_other (Instr.LoadA Pointer.De) = refl
number_is_other (Instr.LoadA (Pointer.Address nn)) = refl
number_is_other (Instr.StoreA Pointer.Bc) = refl
number_is_other (Instr.StoreA Pointer.De) = refl
number_is_other (Instr.StoreA (Pointer.Address nn)) = refl
number_is_other _ = refl

pub no_displacement : (i : Instr) → number_field i ≢ Some Field.Displacement
no_displacement i e = let other : is_displacement (Some Field.Displacement) ≡ false = ap is_displacement (sym e) ∙ number_is_other i in absurd cc

-- The operands of `(IX)` fill no displacement.

abbrev Other : Field → Type 0
Other field = field ≢ Field.Displacement

of_number : (found : Option Field) (more : List Field) → is_displacement found ≡ false → All Other more → All Other (cons_option found more)
of_number None more other all = all
of_number (Some Field.Displacement) more other all = absurd cc
of_number (Some field) more other all = All-cons Other field more (λ e. (let same : is_displacement (Some Field.Displacement) ≡ false = subst (λ f. is_displacement (Some f) ≡ false) e other in absurd cc)) all

others : (i : Instr) (forms : List Form) → All Other (fields_of i (map without_displacement forms))
others i [] = All-nil Other
others i (Form.Name n ∷ forms) = others i forms
others i (Form.At p ∷ forms) = others i forms
others i (Form.AtIndex x ∷ forms) = others i forms
others i (Form.Displaced x ∷ forms) = others i forms
others i (Form.AtNumber ∷ forms) = of_number (number_field i) (fields_of i (map without_displacement forms)) (number_is_other i) (others i forms)
others i (Form.Number ∷ forms) = of_number (number_field i) (fields_of i (map without_displacement forms)) (number_is_other i) (others i forms)

-- Putting another number in does not change the displacement.

past_byte : (d : ℤ) (n : ℕ) (i : Instr) → with_displacement d (with_byte n i) ≡ with_byte n (with_displacement d i)
past_byte d n (Instr.LoadByte m k) = refl
past_byte d n _ = refl

past_word : (d : ℤ) (nn : ℕ) (i : Instr) → with_displacement d (with_word_operand nn i) ≡ with_word_operand nn (with_displacement d i)
past_word d nn (Instr.LoadA p) = refl
past_word d nn _ = refl

past_distance : (d e : ℤ) (i : Instr) → with_displacement d (with_distance e i) ≡ with_distance e (with_displacement d i)
past_distance d e (Instr.Djnz k) = refl
past_distance d e _ = refl

past_bit : (d : ℤ) (b : Octal) (i : Instr) → with_displacement d (with_bit b i) ≡ with_bit b (with_displacement d i)
past_bit d b (Instr.Bit c m) = refl
past_bit d b _ = refl

past_mode : (d : ℤ) (mode : InterruptMode) (i : Instr) → with_displacement d (with_mode mode i) ≡ with_mode mode (with_displacement d i)
past_mode d mode (Instr.Im k) = refl
past_mode d mode _ = refl

past_restart : (d : ℤ) (t : Octal) (i : Instr) → with_displacement d (with_restart t i) ≡ with_restart t (with_displacement d i)
past_restart d t (Instr.Restart u) = refl
past_restart d t _ = refl

past : (field : Field) (value : ℕ) (d : ℤ) (i : Instr) → Other field → with_displacement d (with_number field value i) ≡ with_number field value (with_displacement d i)
past Field.Byte value d i other = past_byte d _ i
past Field.Word value d i other = past_word d _ i
past Field.Displacement value d i other = absurd (other refl)
past Field.Distance value d i other = past_distance d _ i
past Field.Bit value d i other = past_bit d _ i
past Field.Mode value d i other = past_mode d _ i
past Field.Restart value d i other = past_restart d _ i

-- One number, and several.

fields_kept : (field : Field) (value : ℕ) (i : Instr) (forms : List Form) → fields_of (with_number field value i) forms ≡ fields_of i forms
fields_kept field value i [] = refl
fields_kept field value i (form ∷ forms) =
    ap (λ found. cons_option found (fields_of (with_number field value i) forms)) (field_steady field value i form)
    ∙ ap (cons_option (field_of i form)) (fields_kept field value i forms)

spells_one : (m : Mnemonic) (operands : List Form) (i : Instr) (field : Field) (value : ℕ) → Spells m operands i → Contains (fields_of i operands) field → Spells m operands (with_number field value i)
spells_one m operands i field value spells among = record { mnemonic_is = ap (λ r. r.mnemonic) same ∙ spells.mnemonic_is; operands_are = still }
  where
    same : row (with_number field value i) ≡ row i
    same = row_steady field value i

    still : AreOperands operands (with_number field value i)
    still = elim spells.operands_are [
      | inl long ↦ inl (long ∙ ap (λ r. r.operands) (sym same))
      | inr short ↦ (
          let other : Other field = All-contains Other (fields_of i operands) field (subst (λ forms. All Other (fields_of i forms)) (sym short.0) (others i (row i).operands)) among in
          inr (short.0 ∙ ap (λ r. map without_displacement r.operands) (sym same), past field value (pos 0) i other ∙ ap (with_number field value) short.1))
    ]

abbrev Among : List Field → Field × ℕ → Type 0
Among fields n = Contains fields n.0

pub spells_kept : (m : Mnemonic) (operands : List Form) (i : Instr) (numbers : List (Field × ℕ)) → Spells m operands i → All (λ n. Contains (fields_of i operands) n.0) numbers → Spells m operands (with_numbers numbers i)
spells_kept m operands i [] spells all = spells
spells_kept m operands i (n ∷ numbers) spells all =
    spells_kept m operands (with_number n.0 n.1 i) numbers (spells_one m operands i n.0 n.1 spells (All-head (Among (fields_of i operands)) n numbers all))
    (subst (λ fields. All (Among fields) numbers) (sym (fields_kept n.0 n.1 i operands)) (All-tail (Among (fields_of i operands)) n numbers all))
