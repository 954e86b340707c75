-- The checker answers one verdict for files that it accepts.
use Rattle.std.proofs.Common.{◌≡◌, ℕ, List, Result, Ok, Err, length, sym, subst}
use Rattle.std.specs.Prelude.{◌⊎◌}
use Rattle.cert_check.specs.declared.cert.Verdict.{Verdict}
use Rattle.cert_check.specs.declared.cert.Verdict.TheVariants as verdict
use Rattle.cert_check.specs.Accepts.{Accepts}
use Rattle.cert_check.specs.declared.fault.CheckFault.{CheckFault}
use Rattle.cert_check.specs.declared.fault.CheckFault.TheVariants as check
use Rattle.cert_check.specs.Checks.{Checks, IsChecked}
use Rattle.cert_check.proofs.Checked.{only}

-- The law of `cert_check` that two files have one answer.
abbrev pub OneAnswer : Type 0
OneAnswer = (sizes cert : List ℕ) (a b : Result Verdict CheckFault) → Checks sizes cert a → Checks sizes cert b → a ≡ b

-- the answer is this verdict, or that memory ran out
abbrev pub IsSaid : Verdict → Result Verdict CheckFault → Type 0
IsSaid v answer = (answer ≡ Ok v) ⊎ (answer ≡ Err check.NoMemory)

pub certain : OneAnswer → (sizes cert : List ℕ) (v : Verdict) (answer : Result Verdict CheckFault) → Accepts sizes cert v → IsChecked sizes cert answer → IsSaid v answer
certain law sizes cert v answer accepted is = only sizes cert (law sizes cert) answer is (Ok v) accepted

-- the verdict is the length of the file, or memory ran out
pub certain_length : OneAnswer → (file sizes cert : List ℕ) (n : ℕ) (answer : Result Verdict CheckFault) → length file ≡ n → Accepts sizes cert (verdict.Best n) → IsChecked sizes cert answer
    → IsSaid (verdict.Best (length file)) answer
certain_length law file sizes cert n answer same accepted is = subst (λ m. IsSaid (verdict.Best m) answer) (sym same) (certain law sizes cert (verdict.Best n) answer accepted is)
