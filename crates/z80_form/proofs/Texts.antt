-- The instruction that is read has the row that was read: one test for each mnemonic, over all forms.
use Rattle.std.proofs.Common.{◌≡◌, ◌≢◌, not, arith, inl, inr, ◌↔◌, List, [], ◌∷◌, Option, Some, None, Bool, true, false, ◌||◌, refl, ap, sym, subst, ◌∙◌, map, cond, length, pos}
use Rattle.std.specs.Option.{option_map, is_some, IfSome}
use Rattle.std.specs.List.{list_all}
use Rattle.std.proofs.lemmas.List.Elements.{All-cons}
use Rattle.std.proofs.lemmas.Bool.{cases_Bool, and_parts}
use Rattle.z80_instr.proofs.Finite.{◌⊗◌}
use Rattle.z80_form.specs.Types.{AluOperation, Instr, Form, Mnemonic, Field}
use Rattle.z80_form.specs.Rows.{row}
use Rattle.z80_form.specs.Spelling.{without_displacement, Spells, AreOperands, instruction_of}
use Rattle.z80_instr.specs.Table.{canonical}
use Rattle.z80_form.specs.Numbers.{zeros, with_zeros, with_displacement, field_of, has_expression, HasFields}
use Rattle.z80_form.specs.Private.Reading.{instruction_read, two_read}
use Rattle.z80_form.proofs.Words.Finite.{mnemonics}
use Rattle.z80_form.proofs.Finite.{operand_forms}
use Rattle.z80_form.proofs.Rows.{found}
use Rattle.z80_form.proofs.Kept.{sizes_steady, blank_is_flat}

-- whether (IX) or (IY) is among the operands
abbrev has_index : List Form → Bool
has_index [] = false
has_index (Form.AtIndex x ∷ forms) = true
has_index (form ∷ forms) = has_index forms

-- the operands of an instruction, without displacement if the operands that were read contain (IX) or (IY)
abbrev written : List Form → Instr → List Form
written forms instr = cond (has_index forms) (map without_displacement (row instr).operands) (row instr).operands

-- whether an operand's expression, if it has one, fills a field of the instruction
abbrev fills : Instr → Form → Bool
fills instr form = not (has_expression form) || is_some (field_of instr form)

abbrev Seen : Type 0
Seen = Mnemonic × List Form × Instr × Bool

abbrev seen : List Form → Instr → Seen
seen forms instr = ((row instr).mnemonic, written forms instr, with_zeros instr, list_all (fills instr) forms)

abbrev wanted : Mnemonic → List Form → Instr → Seen
wanted m forms instr = (m, forms, instr, true)

abbrev IsSound : Mnemonic → List Form → Option Instr → Type 0
IsSound m forms read = option_map (seen forms) read ≡ option_map (wanted m forms) read

two_sound_by : (m : Mnemonic)
    → (operand_forms ⊗ operand_forms).values _ (λ p. option_map (seen (p.0 ∷ p.1 ∷ [])) (two_read m p.0 p.1)) ≡ (operand_forms ⊗ operand_forms).values _ (λ p. option_map (wanted m (p.0 ∷ p.1 ∷ [])) (two_read m p.0 p.1))
    → (left right : Form) → IsSound m (left ∷ right ∷ []) (two_read m left right)
two_sound_by m e left right = (operand_forms ⊗ operand_forms).agree _ (λ p. option_map (seen (p.0 ∷ p.1 ∷ [])) (two_read m p.0 p.1)) (λ p. option_map (wanted m (p.0 ∷ p.1 ∷ [])) (two_read m p.0 p.1)) e (left, right)

two_sound : (m : Mnemonic) (left right : Form) → IsSound m (left ∷ right ∷ []) (two_read m left right)
two_sound Mnemonic.Ld left right = two_sound_by Mnemonic.Ld refl left right
two_sound Mnemonic.Ex left right = two_sound_by Mnemonic.Ex refl left right
two_sound Mnemonic.Bit left right = two_sound_by Mnemonic.Bit refl left right
two_sound Mnemonic.Set left right = two_sound_by Mnemonic.Set refl left right
two_sound Mnemonic.Res left right = two_sound_by Mnemonic.Res refl left right
two_sound Mnemonic.Jp left right = two_sound_by Mnemonic.Jp refl left right
two_sound Mnemonic.Jr left right = two_sound_by Mnemonic.Jr refl left right
two_sound Mnemonic.Call left right = two_sound_by Mnemonic.Call refl left right
two_sound Mnemonic.In left right = two_sound_by Mnemonic.In refl left right
two_sound Mnemonic.Out left right = two_sound_by Mnemonic.Out refl left right
two_sound (Mnemonic.Alu AluOperation.Add) left right = two_sound_by (Mnemonic.Alu AluOperation.Add) refl left right
two_sound (Mnemonic.Alu AluOperation.Adc) left right = two_sound_by (Mnemonic.Alu AluOperation.Adc) refl left right
two_sound (Mnemonic.Alu AluOperation.Sub) left right = two_sound_by (Mnemonic.Alu AluOperation.Sub) refl left right
two_sound (Mnemonic.Alu AluOperation.Sbc) left right = two_sound_by (Mnemonic.Alu AluOperation.Sbc) refl left right
two_sound (Mnemonic.Alu AluOperation.And) left right = two_sound_by (Mnemonic.Alu AluOperation.And) refl left right
two_sound (Mnemonic.Alu AluOperation.Xor) left right = two_sound_by (Mnemonic.Alu AluOperation.Xor) refl left right
two_sound (Mnemonic.Alu AluOperation.Or) left right = two_sound_by (Mnemonic.Alu AluOperation.Or) refl left right
two_sound (Mnemonic.Alu AluOperation.Cp) left right = two_sound_by (Mnemonic.Alu AluOperation.Cp) refl left right
two_sound _ left right = refl

sound : (m : Mnemonic) (forms : List Form) → IsSound m forms (instruction_read m forms)
sound m [] = mnemonics.agree _ (λ m. option_map (seen []) (instruction_read m [])) (λ m. option_map (wanted m []) (instruction_read m [])) refl m
sound m (form ∷ []) = (mnemonics ⊗ operand_forms).agree _ (λ p. option_map (seen (p.1 ∷ [])) (instruction_read p.0 (p.1 ∷ []))) (λ p. option_map (wanted p.0 (p.1 ∷ [])) (instruction_read p.0 (p.1 ∷ []))) refl (m, form)
sound m (left ∷ right ∷ []) = two_sound m left right
sound m (a ∷ b ∷ c ∷ forms) = refl

spelled : (m : Mnemonic) (forms : List Form) (instr : Instr) → seen forms instr ≡ wanted m forms instr → Spells m forms instr × (with_zeros instr ≡ instr) × (list_all (fills instr) forms ≡ true)
spelled m forms instr e =
    let operands : written forms instr ≡ forms = ap (λ (s : Seen). s.1) e in
    let zeros : with_zeros instr ≡ instr = ap (λ (s : Seen). s.2) e in
    let split : AreOperands forms instr =
    elim (cases_Bool (has_index forms)) [
      | inl short ↦ inr (sym (rw short at operands), subst (λ i. with_displacement (pos 0) i ≡ i) zeros (blank_is_flat instr))
      | inr long ↦ inl (sym (rw long at operands))
    ] in
    (record { mnemonic_is = ap (λ (s : Seen). s.0) e; operands_are = split }, zeros, ap (λ (s : Seen). s.3) e)

is_spelled : (m : Mnemonic) (forms : List Form) (instr : Instr) (read : Option Instr) → IsSound m forms read → read ≡ Some instr → Spells m forms instr × (with_zeros instr ≡ instr) × (list_all (fills instr) forms ≡ true)
is_spelled m forms instr None e is = absurd cc
is_spelled m forms instr (Some found) e is =
    let same : found ≡ instr = cc in
    let whole : ◌≡◌ {A = Seen} (seen forms found) (wanted m forms found) = cc in
    spelled m forms instr (rw same at whole)

-- A mnemonic and operands are read as the one instruction that they are a source form of.
instruction_is : (m : Mnemonic) (forms : List Form) (instr : Instr) → (instruction_read m forms ≡ Some instr) ↔ (Spells m forms instr × (with_zeros instr ≡ instr))
instruction_is m forms instr = (
  λ is. let all = is_spelled m forms instr (instruction_read m forms) (sound m forms) is in (all.0, all.1),
  λ spells. found m forms instr spells.0 ∙ ap Some spells.1,
)

-- Each expression of the operands fills a field of the instruction that was read.
fills_field : (expression : Bool) (field : Option Field) → (not expression || is_some field) ≡ true → expression ≡ true → field ≢ None
fills_field false field ok e none = cc
fills_field true None ok e none = cc
fills_field true (Some field) ok e none = cc

has_fields : (instr : Instr) (forms : List Form) → list_all (fills instr) forms ≡ true → HasFields instr forms
has_fields instr [] ok = λ k d h. absurd (omega arith)
has_fields instr (form ∷ forms) ok =
    let parts = and_parts (fills instr form) _ ok in
    All-cons (λ form. has_expression form ≡ true → field_of instr form ≢ None) form forms (fills_field (has_expression form) (field_of instr form) parts.0) (has_fields instr forms parts.1)

pub fields_filled : (m : Mnemonic) (forms : List Form) (read : Option Instr) → instruction_read m forms ≡ read → IfSome read (λ instr. HasFields instr forms)
fields_filled m forms None e = tt
fields_filled m forms (Some instr) e = has_fields instr forms (is_spelled m forms instr (instruction_read m forms) (sound m forms) e).2

-- Reading answers None exactly if the mnemonic and operands are no source form.
none_by : (m : Mnemonic) (forms : List Form) (read : Option Instr) → instruction_read m forms ≡ read → ((instr : Instr) → Spells m forms instr → ⊥) → read ≡ None
none_by m forms None e never = refl
none_by m forms (Some instr) e never = absurd (never instr ((instruction_is m forms instr).0 e).0)

pub none_is : (m : Mnemonic) (forms : List Form) → (instruction_read m forms ≡ None) ↔ ((instr : Instr) → Spells m forms instr → ⊥)
none_is m forms = (
  λ none instr spells. let some = sym none ∙ found m forms instr spells in absurd cc,
  λ never. none_by m forms (instruction_read m forms) refl never,
)

-- A mnemonic and operands are the source form of one instruction, apart from its numbers: they are read as both.
pub one_blank : (m : Mnemonic) (forms : List Form) (a b : Instr) → Spells m forms a → Spells m forms b → with_zeros a ≡ with_zeros b
one_blank m forms a b first second =
    let same : ◌≡◌ {A = Option Instr} (Some (with_zeros a)) (Some (with_zeros b)) = sym (found m forms a first) ∙ found m forms b second in
    cc

pub one_size : (m : Mnemonic) (forms : List Form) (a b : Instr) → Spells m forms a → Spells m forms b → length (canonical a) ≡ length (canonical b)
one_size m forms a b first second =
    sym (sizes_steady zeros a) ∙ ap (λ i. length (canonical i)) (one_blank m forms a b first second) ∙ sizes_steady zeros b

-- The same for `instruction_of`.
pub found_is_read : (m : Mnemonic) (forms : List Form) → instruction_of m forms ≡ instruction_read m forms
unfolding instruction_of
found_is_read m forms = refl

pub found_is : (m : Mnemonic) (forms : List Form) (instr : Instr) → (instruction_of m forms ≡ Some instr) ↔ (Spells m forms instr × (with_zeros instr ≡ instr))
found_is m forms instr = rw (found_is_read m forms) (instruction_is m forms instr)

pub found_none : (m : Mnemonic) (forms : List Form) → (instruction_of m forms ≡ None) ↔ ((instr : Instr) → Spells m forms instr → ⊥)
found_none m forms = rw (found_is_read m forms) (none_is m forms)

pub found_few : (m : Mnemonic) (a b c : Form) (more : List Form) → instruction_of m (a ∷ b ∷ c ∷ more) ≡ None
found_few m a b c more = found_is_read m (a ∷ b ∷ c ∷ more)

pub found_fields : (m : Mnemonic) (forms : List Form) (instr : Instr) → instruction_of m forms ≡ Some instr → HasFields instr forms
found_fields m forms instr e = fields_filled m forms (Some instr) (sym (found_is_read m forms) ∙ e)
