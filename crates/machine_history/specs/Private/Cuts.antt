-- Texts that are cut at a byte.
use Rattle.std.specs.Prelude.{◌≡◌, ◌==◌, ℕ, false, List}
use Rattle.std.specs.List.{AllByRecursion}

-- the byte is not in the text
abbrev pub Lacks : ℕ → List ℕ → Type 0
Lacks byte text = AllByRecursion (λ b. (b == byte) ≡ false) text
