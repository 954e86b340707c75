use Rattle.std.specs.Prelude.{ℕ, List, Result, Ok, Err}
use Rattle.cert_check.specs.declared.shape.Statement.{Statement}
use Rattle.cert_check.specs.declared.cert.Verdict.{Verdict}
use Rattle.cert_check.specs.declared.text_fault.TextFault.TheVariants.{BadLine}
use Rattle.cert_check.specs.Texts.{ReadsSizes, ReadsCert}
use Rattle.cert_check.specs.Accepts.{Accepts}
use Rattle.cert_check.specs.Types.{CheckFault}
use Rattle.cert_check.specs.declared.fault.CheckFault.TheVariants.{BadSizes, BadCertificate, NoMemory}
use Rattle.cert_check.specs.Faults.{HasCheckFault, faults, FirstOf}

-- What two files prove: a verdict, or their first error.

-- the sizes file is good, and the certificate has its first bad line here
pub record HasBadCertificate (sizes cert : List ℕ) (line : ℕ) : Type 0 where
  pub shape : List Statement
  pub sizes_are : ReadsSizes sizes (Ok shape)
  pub bad : ReadsCert cert (Err (BadLine line))

-- both files can be read, and this is the first error of what they say
pub record HasFirstFault (sizes cert : List ℕ) (fault : CheckFault) : Type 0 where
  pub shape : List Statement
  pub order : List ℕ
  pub verdict : Verdict
  pub sizes_are : ReadsSizes sizes (Ok shape)
  pub cert_is : ReadsCert cert (Ok (order, verdict))
  pub first : FirstOf (HasCheckFault shape order verdict) (faults shape order verdict) fault

-- what two files prove: a verdict, or their first error
abbrev pub Checks : List ℕ → List ℕ → Result Verdict CheckFault → Type 0
Checks sizes cert (Ok verdict) = Accepts sizes cert verdict
Checks sizes cert (Err (BadSizes line)) = ReadsSizes sizes (Err (BadLine line))
Checks sizes cert (Err (BadCertificate line)) = HasBadCertificate sizes cert line
Checks sizes cert (Err NoMemory) = ⊥
Checks sizes cert (Err fault) = HasFirstFault sizes cert fault

-- what `check` answers: that, or that memory ran out
abbrev pub IsChecked : List ℕ → List ℕ → Result Verdict CheckFault → Type 0
IsChecked sizes cert (Err NoMemory) = Unit {0}
IsChecked sizes cert answer = Checks sizes cert answer
