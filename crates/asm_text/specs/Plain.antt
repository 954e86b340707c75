-- Replacements that bring no sign into a line.
use Rattle.std.specs.Prelude.{◌≡◌, ◌&&◌, ℕ, Bool, true, not, IfSome, List, [], ◌∷◌}
use Rattle.std.specs.Map.{lookup}
use Rattle.std.specs.Str.{bytes_eq}
use Rattle.asm_line.specs.Replacing.Replaced.{ReplacementTable}
use Rattle.asm_text.specs.declared.signs.Sign.{Sign}
use Rattle.asm_text.specs.Signs.{has_sign}

-- A text is plain if it has no sign. In the place of a name it then makes no sign together with what is beside it: the byte after a
-- name cannot continue a word, and before a name there is at most a number, and no block word begins with a digit.
abbrev pub is_plain : Sign → List ℕ → Bool
is_plain sign text = not (has_sign sign text)

-- Each parameter's argument is plain. A missing argument is empty, and so plain.
abbrev pub are_plain : Sign → List (List ℕ) → List (List ℕ) → Bool
are_plain sign [] arguments = true
are_plain sign (parameter ∷ parameters) [] = true
are_plain sign (parameter ∷ parameters) (argument ∷ arguments) = is_plain sign argument && are_plain sign parameters arguments

-- The table replaces each of its names by a plain text.
abbrev pub ArePlain : Sign → ReplacementTable → Type 0
ArePlain sign t = (name : List ℕ) → IfSome (lookup (bytes_eq name) t) (λ text. is_plain sign text ≡ true)
