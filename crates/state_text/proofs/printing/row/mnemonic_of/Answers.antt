use Rattle.std.proofs.Common.{◌≡◌, ◌∙◌, ap, refl}
use Rattle.std.specs.Option.{unwrap_or}
use Rattle.z80_form.specs.Rows.{row}
use Rattle.z80_form.specs.Types.{Instr}
use Rattle.z80_form.specs.declared.mnemonic.Mnemonic.{Mnemonic}
use Rattle.state_text.specs.Private.Rows.{mnemonic_alone}
use Rattle.state_text.proofs.printing.row.mnemonic_of.Goals as goal

-- what the other arms leave
rest : (c : goal.After-unwrap_or) (instr : Instr) → c.args.instr ≡ instr → unwrap_or (mnemonic_alone (row instr)) Mnemonic.Ld ≡ (row instr).mnemonic
rest c (Instr.Push a) is = absurd (c.in_default.not-Push a is)
rest c (Instr.Pop a) is = absurd (c.in_default.not-Pop a is)
rest c Instr.ExDeHl is = absurd (c.in_default.not-ExDeHl is)
rest c Instr.ExAf is = absurd (c.in_default.not-ExAf is)
rest c (Instr.ExSp a) is = absurd (c.in_default.not-ExSp a is)
rest c (Instr.Alu a b) is = absurd (c.in_default.not-Alu a b is)
rest c (Instr.AluByte a b) is = absurd (c.in_default.not-AluByte a b is)
rest c (Instr.Inc a) is = absurd (c.in_default.not-Inc a is)
rest c (Instr.Dec a) is = absurd (c.in_default.not-Dec a is)
rest c (Instr.Im a) is = absurd (c.in_default.not-Im a is)
rest c (Instr.AddHl a) is = absurd (c.in_default.not-AddHl a is)
rest c (Instr.AdcHl a) is = absurd (c.in_default.not-AdcHl a is)
rest c (Instr.SbcHl a) is = absurd (c.in_default.not-SbcHl a is)
rest c (Instr.AddIndex a b) is = absurd (c.in_default.not-AddIndex a b is)
rest c (Instr.IncWord a) is = absurd (c.in_default.not-IncWord a is)
rest c (Instr.DecWord a) is = absurd (c.in_default.not-DecWord a is)
rest c (Instr.Rotate a b) is = absurd (c.in_default.not-Rotate a b is)
rest c (Instr.Bit a b) is = absurd (c.in_default.not-Bit a b is)
rest c (Instr.Set a b) is = absurd (c.in_default.not-Set a b is)
rest c (Instr.Res a b) is = absurd (c.in_default.not-Res a b is)
rest c (Instr.Jump a) is = absurd (c.in_default.not-Jump a is)
rest c (Instr.JumpIf a b) is = absurd (c.in_default.not-JumpIf a b is)
rest c (Instr.JumpRelative a) is = absurd (c.in_default.not-JumpRelative a is)
rest c (Instr.JumpRelativeIf a b) is = absurd (c.in_default.not-JumpRelativeIf a b is)
rest c (Instr.JumpIndirect a) is = absurd (c.in_default.not-JumpIndirect a is)
rest c (Instr.Djnz a) is = absurd (c.in_default.not-Djnz a is)
rest c (Instr.Call a) is = absurd (c.in_default.not-Call a is)
rest c (Instr.CallIf a b) is = absurd (c.in_default.not-CallIf a b is)
rest c (Instr.RetIf a) is = absurd (c.in_default.not-RetIf a is)
rest c (Instr.Restart a) is = absurd (c.in_default.not-Restart a is)
rest c (Instr.InA a) is = absurd (c.in_default.not-InA a is)
rest c (Instr.InC a) is = absurd (c.in_default.not-InC a is)
rest c (Instr.OutA a) is = absurd (c.in_default.not-OutA a is)
rest c (Instr.OutC a) is = absurd (c.in_default.not-OutC a is)
rest c _ is = refl

pub returns-in_default : goal.returns-in_default
returns-in_default c = c.unwrap_or.ensures ∙ ap (λ alone. unwrap_or alone Mnemonic.Ld) c.mnemonic_alone.ensures ∙ rest c c.args.instr refl
