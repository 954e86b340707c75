-- How the short and long jumps of a program are chosen, and what holds of the choice.
use Rattle.std.specs.Prelude.{ℕ, List}
use Rattle.relax.specs.declared.shape.Statement.{Statement as Sized}
use Rattle.relax.specs.Choice.{Choice, IsShape, IsValid, total}
use Rattle.relax.specs.declared.growth.Verdict.{Verdict}
use Rattle.relax.specs.declared.growth.Verdict.TheVariants.{Best, Range, TooLarge}
use Rattle.relax.specs.Growth.{Holds, IsLeastFirst, IsNeeded, after}
use Rattle.zlink.specs.declared.fault.Misfit.{Misfit}
use Rattle.zlink.specs.declared.fault.Misfit.TheVariants as misfit
use Rattle.zlink.specs.Certified.{IsCertified}

-- Jumps become long in the least-first order: each time the lowest relaxable jump that is short and does not reach its target, until there
-- is none. The choice after that order makes a relaxable jump long exactly if every settled choice does. (In a settled choice each
-- relaxable jump that is short reaches its target.) The verdict holds of that choice, compared with all others. The sizes file and the
-- certificate prove this order and this verdict.
pub record IsShapeJudged (shape : List Sized) (order : List ℕ) (v : Verdict) (sizes cert : List ℕ) : Type 0 where
  pub is_shape : IsShape shape
  pub least_first : IsLeastFirst shape order
  pub needed : IsNeeded (after order) shape
  pub verdict : Holds (after order) shape v
  pub certified : IsCertified shape order v sizes cert

-- No choice that fits takes fewer bytes than the choice after the order.
abbrev pub IsBestAfter : List Sized → List ℕ → List ℕ → List ℕ → Type 0
IsBestAfter shape order sizes cert = IsShapeJudged shape order (Best (total (after order) shape)) sizes cert

-- why no choice fits, as a verdict
abbrev pub verdict_of : Misfit → Verdict
verdict_of (misfit.Range k) = Range k
verdict_of (misfit.TooLarge n) = TooLarge n

-- No choice fits. Either the lowest jump that is always short and does not reach its target does not reach it in any settled choice; or all
-- those jumps reach, but every settled choice takes too many bytes. The sizes file and the certificate prove it.
pub record IsUnfit (shape : List Sized) (why : Misfit) (sizes cert : List ℕ) : Type 0 where
  pub order : List ℕ
  pub judged : IsShapeJudged shape order (verdict_of why) sizes cert
  pub none : (c : Choice) → ¬ IsValid c shape
