use Rattle.std.specs.Prelude.{◌≡◌, ℕ, ◌<◌, List}
use Rattle.cert_check.specs.declared.limits.TheConstants.{LONGEST_PROGRAM}
use Rattle.cert_check.specs.FileTypes.{Statement, Verdict}
use Rattle.cert_check.specs.declared.cert.Verdict.TheVariants.{Best, Range, TooLarge}
use Rattle.cert_check.specs.Choice.{Choice, IsShape, IsShort, Reaches, IsValid, IsBest, total}
use Rattle.cert_check.specs.Forcing.{after, IsForcing}
use Rattle.cert_check.specs.Texts.{sizes_text, cert_text, IsCert}

-- When a certificate is good, and what a good one proves.

-- statement k is a jump that is always short and does not reach its target
pub record IsOutOfRange (c : Choice) (shape : List Statement) (k : ℕ) : Type 0 where
  pub target : ℕ
  pub jump : IsShort shape k target
  pub misses : ¬ Reaches c shape k target

-- what a verdict says about one choice
abbrev pub IsVerdictOf : Choice → List Statement → Verdict → Type 0
IsVerdictOf c shape (Best n) = IsValid c shape × (total c shape ≡ n)
IsVerdictOf c shape (Range k) = IsOutOfRange c shape k
IsVerdictOf c shape (TooLarge n) = (total c shape ≡ n) × (LONGEST_PROGRAM < n)

-- The two files have a shape, and a forcing order of it with this verdict, which is true of the choice after that
-- order. The order need not be the least-first one.
pub record Accepts (sizes cert : List ℕ) (verdict : Verdict) : Type 0 where
  pub shape : List Statement
  pub order : List ℕ
  pub is_shape : IsShape shape
  pub sizes_are : sizes ≡ sizes_text shape
  pub is_cert : IsCert order verdict
  pub cert_is : cert ≡ cert_text order verdict
  pub forcing : IsForcing shape order
  pub shown : IsVerdictOf (after order) shape verdict

-- what a verdict says about every choice
abbrev pub HoldsOfEveryChoice : List Statement → Verdict → Type 0
HoldsOfEveryChoice shape (Best n) = (c : Choice) × IsBest c shape × (total c shape ≡ n)
HoldsOfEveryChoice shape (Range k) = (c : Choice) → ¬ IsValid c shape
HoldsOfEveryChoice shape (TooLarge n) = (c : Choice) → ¬ IsValid c shape
