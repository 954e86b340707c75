-- One name in a list.
use Rattle.std.proofs.Common.{◌≡◌, ◌≢◌, ◌++◌, ℕ, List, [], ◌∷◌, Option, Some, None, Ok, Err, length, refl, ap, arith}
use Rattle.std.specs.Option.{option_map}
use Rattle.std.specs.Prelude.{option_to_list, Vec}
use Rattle.std.specs.Global.{Global}
use Rattle.asm_spell.specs.declared.fault.StmtFault.{StmtFault}
use Rattle.asm_spell.specs.Line.{End, name_texts}
use Rattle.asm_spell.specs.Directives.{end_body}

pub not_one : (names : List (Vec ℕ Global)) → length names ≢ 1 → end_body (name_texts names) ≡ Err StmtFault.BadOperands
not_one [] other = refl
not_one (n ∷ []) other = absurd (other refl)
not_one (n ∷ m ∷ more) other = refl

pub one_entry : (names left : List (Vec ℕ Global)) (last : Option (Vec ℕ Global)) → length names ≡ 1 → names ≡ left ++ option_to_list last → length left ≡ 0
    → end_body (name_texts names) ≡ Ok (End (option_map (λ name. name.items) last))
one_entry names [] (Some n) one e none = rw e refl
one_entry names [] None one e none = absurd (omega (arith, ap length e))
one_entry names (m ∷ left) last one e none = absurd (omega arith)
