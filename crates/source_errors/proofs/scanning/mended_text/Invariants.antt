use Rattle.std.proofs.Common.{◌≡◌, ◌++◌, [], ◌∷◌, drop}
use Rattle.std.specs.List.{flat_map}
use Rattle.source_errors.specs.Found.{mended}
use Rattle.source_errors.proofs.scanning.mended_text.Given as goal

-- The text so far, with the lines that are left, is the whole.
abbrev pub invariant-loop-at : goal.invariant-loop-at
invariant-loop-at l = l.text.items ++ flat_map (λ line. mended line ++ 10 ∷ []) (drop l.at l.lines) ≡ flat_map (λ line. mended line ++ 10 ∷ []) l.lines
