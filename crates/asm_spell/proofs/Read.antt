-- Operands that no instruction has.
use Rattle.std.proofs.Common.{◌≡◌, ℕ, List, ◌∷◌, Ok, Err, Option, Some, None, is_some, true, map, refl, sym, ap, ◌∙◌}
use Rattle.std.specs.Borrow.{Bor}
use Rattle.std.specs.Option.{option_and_then}
use Rattle.asm_line.specs.declared.token.Token.{Token}
use Rattle.asm_line.specs.Tokens.{Lexeme}
use Rattle.z80_form.specs.declared.mnemonic.Mnemonic.{Mnemonic}
use Rattle.z80_form.specs.declared.form.Form.{Form}
use Rattle.z80_form.specs.Spelling.{instruction_of}
use Rattle.asm_spell.specs.declared.fault.StmtFault.{StmtFault}
use Rattle.asm_spell.specs.Faults.{each}
use Rattle.asm_spell.specs.Line.{Body}
use Rattle.asm_spell.specs.Operands.{WrittenOperand, written_operand}
use Rattle.asm_spell.specs.Spelling.{instruction_by}
use Rattle.asm_spell.specs.Private.Cutting.{left, with_others}
use Rattle.asm_spell.proofs.Named.{each_parts}
use Rattle.asm_spell.proofs.Pieces.{some_piece}

-- An instruction that is no jump is no jump to any name.
pub no_jump : (to : List ℕ → Option Body) (target : Option (List ℕ)) → ((name : List ℕ) → None ≡ to name) → None ≡ option_and_then to target
no_jump to None never = refl
no_jump to (Some name) never = never name

few_taken : (m : Mnemonic) (a b c : WrittenOperand) (more : List WrittenOperand) → instruction_of m (map (λ w. w.form) (a ∷ b ∷ c ∷ more)) ≡ None → instruction_by m (a ∷ b ∷ c ∷ more) ≡ Err StmtFault.BadOperands
few_taken m a b c more none = rw none refl

-- There is at least one more operand, and no instruction has three.
pub too_many : ((m : Mnemonic) (a b c : Form) (more : List Form) → instruction_of m (a ∷ b ∷ c ∷ more) ≡ None)
    → (m : Mnemonic) (x : WrittenOperand) (q : List Lexeme) (behind : Option (Bor (List Token))) (y : WrittenOperand) (others : List WrittenOperand) → is_some behind ≡ true → written_operand q ≡ Ok y
    → each written_operand (left behind) ≡ Ok others → with_others m x (each written_operand (q ∷ left behind)) ≡ Err StmtFault.BadOperands
too_many few m x q None y others some is read = absurd cc
too_many few m x q (Some rest) y others some is read =
    let piece = some_piece rest.now in
    let parts = each_parts written_operand piece.0 piece.1 others (ap (λ ps. each written_operand ps) (sym piece.2) ∙ read) in
    rw (is, read, parts.4) (few_taken m x y parts.0 parts.1 (few m x.form y.form parts.0.form (map (λ w. w.form) parts.1)))
