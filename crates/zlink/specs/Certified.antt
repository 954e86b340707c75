-- The sizes file and the certificate of a program, which prove what the verdict says about its choices.
use Rattle.std.specs.Prelude.{◌≡◌, ℕ, List, map}
use Rattle.relax.specs.declared.shape.Statement.{Statement as Sized}
use Rattle.relax.specs.declared.shape.Statement.TheVariants as sized
use Rattle.relax.specs.declared.growth.Verdict.{Verdict as Growing}
use Rattle.relax.specs.declared.growth.Verdict.TheVariants as growing
use Rattle.cert_check.specs.declared.shape.Statement.{Statement as Told}
use Rattle.cert_check.specs.declared.shape.Statement.TheVariants as telling
use Rattle.cert_check.specs.declared.cert.Verdict.{Verdict}
use Rattle.cert_check.specs.declared.cert.Verdict.TheVariants as verdict
use Rattle.cert_check.specs.Texts.{cert_text, sizes_text}
use Rattle.cert_check.specs.Accepts.{Accepts}

-- The linker and the checker share no types, so sizes and verdicts are translated into the checker's types.

-- the size of a statement in the checker's type
abbrev pub told_size : Sized → Told
told_size (sized.Fixed n) = telling.Fixed n
told_size (sized.Jump target) = telling.Jump target
told_size (sized.Short target) = telling.Short target

-- a verdict in the checker's type
abbrev pub told_verdict : Growing → Verdict
told_verdict (growing.Best n) = verdict.Best n
told_verdict (growing.Range k) = verdict.Range k
told_verdict (growing.TooLarge n) = verdict.TooLarge n

-- The first list is the sizes file of the shape, the second is the certificate with this order and this verdict, and the checker's rule
-- accepts both with this verdict.
pub record IsCertified (shape : List Sized) (order : List ℕ) (v : Growing) (sizes cert : List ℕ) : Type 0 where
  pub own : sizes ≡ sizes_text (map told_size shape)
  pub spelled : cert ≡ cert_text order (told_verdict v)
  pub accepted : Accepts sizes cert (told_verdict v)
