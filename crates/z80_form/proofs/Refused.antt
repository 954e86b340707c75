-- What the public definitions say of source forms for which some wrong bodies would say something else.
use Rattle.std.proofs.Common.{◌≡◌, List, [], ◌∷◌, inl, inr, refl, ℤ, pos, negsuc}
use Rattle.z80_form.specs.Types.{IndexRegister, Memory, Operand, Name, Form, Mnemonic, Instr, Field}
use Rattle.z80_form.specs.Spelling.{Spells}
use Rattle.z80_form.specs.Numbers.{with_number}
use Rattle.z80_form.proofs.Texts.{none_is}

-- there is no EX HL,DE
pub ex_hl_de : (instr : Instr) → Spells Mnemonic.Ex (Form.Name Name.Hl ∷ Form.Name Name.De ∷ []) instr → ⊥
ex_hl_de = (none_is Mnemonic.Ex (Form.Name Name.Hl ∷ Form.Name Name.De ∷ [])).0 refl

-- CALL NZ,nn is no form of CALL nn
pub call_nz : Spells Mnemonic.Call (Form.Name Name.Nz ∷ Form.Number ∷ []) (Instr.Call 0) → ⊥
call_nz spells = elim spells.operands_are as (λ _. ⊥) [ inl long ↦ two_are_not_one long | inr short ↦ two_are_not_one short.0 ]
  where
    two_are_not_one : ◌≡◌ {A = List Form} (Form.Name Name.Nz ∷ Form.Number ∷ []) (Form.Number ∷ []) → ⊥
    two_are_not_one e = cc

-- INC (IX) is only INC (IX+0)
pub inc_ix : (x : IndexRegister) (d : ℤ) → Spells Mnemonic.Inc (Form.AtIndex x ∷ []) (Instr.Inc (Operand.Memory (Memory.Indexed x d))) → d ≡ pos 0
inc_ix x d spells = elim spells.operands_are as (λ _. d ≡ pos 0) [ inl long ↦ absurd (other_form long) | inr short ↦ same_number short.1 ]
  where
    other_form : ◌≡◌ {A = List Form} (Form.AtIndex x ∷ []) (Form.Displaced x ∷ []) → ⊥
    other_form e = cc

    same_number : Instr.Inc (Operand.Memory (Memory.Indexed x (pos 0))) ≡ Instr.Inc (Operand.Memory (Memory.Indexed x d)) → d ≡ pos 0
    same_number e = cc

-- the displacement FFFBH is -5
pub displacement_fffb : with_number Field.Displacement 0xFFFB (Instr.Inc (Operand.Memory (Memory.Indexed IndexRegister.Ix (pos 0)))) ≡ Instr.Inc (Operand.Memory (Memory.Indexed IndexRegister.Ix (negsuc 4)))
displacement_fffb = refl
