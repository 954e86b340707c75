-- Sources by their parts.
use Rattle.std.specs.Prelude.{◌≡◌, ℕ, List, map}
use Rattle.zlink.specs.declared.source.Source.{Source}

-- Sources with these names and texts.
abbrev pub AreNamed : List (List ℕ) → List (List ℕ) → List Source → Type 0
AreNamed names texts sources = (map (λ source. source.name.now) sources ≡ names) × (map (λ source. source.text.now) sources ≡ texts)
