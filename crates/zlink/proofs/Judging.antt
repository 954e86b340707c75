-- What the growth of a shape proves about linking.
use Rattle.std.proofs.Common.{◌≡◌, ℕ, List, sym, subst, arith}
use Rattle.std.proofs.Math.Path.{fun_ext}
use Rattle.relax.specs.declared.shape.Statement.{Statement as Sized}
use Rattle.relax.specs.Choice.{Choice, IsShape, IsValid, chosen}
use Rattle.relax.specs.Growth.{Holds, IsGrowth, IsNeeded, after}
use Rattle.relax.specs.declared.growth.Growth.{Growth}
use Rattle.relax.specs.declared.growth.Verdict.{Verdict}
use Rattle.relax.specs.declared.growth.Verdict.TheVariants.{Best}
use Rattle.zlink.specs.declared.fault.Misfit.{Misfit}
use Rattle.zlink.specs.declared.fault.Misfit.TheVariants as misfit
use Rattle.zlink.specs.Judged.{IsBestAfter, IsShapeJudged, IsUnfit, verdict_of}
use Rattle.zlink.specs.Certified.{IsCertified}

pub judged : (shape : List Sized) (grown : Growth) (v : Verdict) (sizes cert : List ℕ) → IsShape shape → grown.verdict ≡ v → IsGrowth shape grown
    → IsCertified shape grown.order.items grown.verdict sizes cert → IsShapeJudged shape grown.order.items v sizes cert
judged shape grown v sizes cert is_shape e is certified = record {
  is_shape = is_shape;
  least_first = is.order;
  needed = subst (λ c. IsNeeded c shape) (fun_ext is.long) is.needed;
  verdict = subst (λ c. Holds c shape v) (fun_ext is.long) (subst (Holds (chosen grown.long.items) shape) e is.verdict);
  certified = subst (λ w. IsCertified shape grown.order.items w sizes cert) e certified;
}

-- the choice after the order is best
pub best : (shape : List Sized) (grown : Growth) (n : ℕ) (sizes cert : List ℕ) → IsShape shape → grown.verdict ≡ Best n → IsGrowth shape grown
    → IsCertified shape grown.order.items grown.verdict sizes cert → IsBestAfter shape grown.order.items sizes cert
best shape grown n sizes cert is_shape e is certified =
    let at_n = judged shape grown (Best n) sizes cert is_shape e is certified in
    subst (λ m. IsShapeJudged shape grown.order.items (Best m) sizes cert) (sym at_n.verdict.1) at_n

-- a best choice is valid, so the file can be written
pub best_valid : (shape : List Sized) (grown : Growth) (n : ℕ) → grown.verdict ≡ Best n → IsGrowth shape grown → IsValid (chosen grown.long.items) shape
best_valid shape grown n e is = (subst (Holds (chosen grown.long.items) shape) e is.verdict).0.valid

-- no choice fits
pub unfit : (shape : List Sized) (grown : Growth) (why : Misfit) (sizes cert : List ℕ) → IsShape shape → grown.verdict ≡ verdict_of why → IsGrowth shape grown
    → IsCertified shape grown.order.items grown.verdict sizes cert → IsUnfit shape why sizes cert
unfit shape grown why sizes cert is_shape e is certified =
    let all = judged shape grown (verdict_of why) sizes cert is_shape e is certified in
    record { order = grown.order.items; judged = all; none = none why all.verdict }
  where
    none : (w : Misfit) → Holds (after grown.order.items) shape (verdict_of w) → (c : Choice) → ¬ IsValid c shape
    none (misfit.Range k) is c valid = is.always c valid.settled (valid.shorts k is.lowest.target is.lowest.jump)
    none (misfit.TooLarge n) is c valid = let least = is.least c valid.settled in absurd (omega (arith, is.above, valid.fits))
