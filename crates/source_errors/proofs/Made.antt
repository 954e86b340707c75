-- Errors that only mended lines have are left out one by one.
use Rattle.std.proofs.Common.{◌≡◌, ◌++◌, ◌∙◌, ℕ, List, [], ◌∷◌, false, true, refl, ap, map}
use Rattle.source_errors.specs.Findings.{Finding, finding_of}
use Rattle.source_errors.specs.Found.{is_made, without_made}

pub kept_first : (text : List ℕ) (f : Finding) (rest : List Finding) → is_made text f ≡ false → without_made text (f ∷ rest) ≡ f ∷ without_made text rest
kept_first text f rest is = rw is refl

pub left_out_first : (text : List ℕ) (f : Finding) (rest : List Finding) → is_made text f ≡ true → without_made text (f ∷ rest) ≡ without_made text rest
left_out_first text f rest is = rw is refl
