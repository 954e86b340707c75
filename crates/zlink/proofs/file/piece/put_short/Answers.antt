use Rattle.std.proofs.Common.{◌≡◌, ℤ, Some, None, refl, length, ap, subst, ◌∙◌, w8}
use Rattle.std.proofs.lemmas.Int.{to_z-of_z}
use Rattle.z80_instr.specs.Table.{canonical}
use Rattle.z80_instr.specs.Codes.{Codes}
use Rattle.z80_instr.specs.declared.Branch.{Branch}
use Rattle.z80_instr.specs.declared.Branch.TheVariants.{Relative, CountDown}
use Rattle.asm_module.specs.Program.Pieces.{short_jump}
use Rattle.zlink.proofs.file.piece.put_short.Goals as goal

-- a short jump takes two bytes
two : (branch : Branch) (e : ℤ) → length (canonical (short_jump branch e)) ≡ 2
two (Relative None) e = refl
two (Relative (Some condition)) e = refl
two CountDown e = refl

pub returns : goal.returns
returns c =
    let e = c.displacement.result in
    let jump : c.short_jump-jump.result ≡ short_jump c.args.branch e = c.short_jump-jump.ensures ∙ ap (short_jump c.args.branch) (to_z-of_z w8 e c.displacement.ensures.fits) in
    let spelled : Codes (short_jump c.args.branch e) (canonical c.short_jump-jump.result) = subst (λ i. Codes i (canonical c.short_jump-jump.result)) jump c.put_instr.ensures.spelled in
    (canonical c.short_jump-jump.result, c.in_ok-put_instr.ensures.ok, ((e, c.displacement.ensures.leads, spelled), ap (λ i. length (canonical i)) jump ∙ two c.args.branch e))
