-- The lines of a span with their numbers, as a call shows them.
use Rattle.std.specs.Prelude.{ℕ, ◌+◌, ◌-◌, List, [], ◌∷◌, Option, Some, None, take, drop}
use Rattle.std.specs.Option.{unwrap_or}
use Rattle.asm_line.specs.Replacing.Replaced.{ReplacementTable}
use Rattle.asm_text.specs.declared.span.Span.{Span}
use Rattle.asm_text.specs.Lines.{Numbered}
use Rattle.asm_text.specs.Calls.{replaced_line}

-- a line as a call with these replacements shows it, or as written if there is no call
abbrev pub shown : Option ReplacementTable → List ℕ → List ℕ
shown None text = text
shown (Some table) text = replaced_line table text

-- lines of the source from the index `at` on, as shown: each bears the given number, or its own if none is given
abbrev pub lines_from : Option ℕ → ℕ → Option ReplacementTable → List (List ℕ) → List Numbered
lines_from number at names [] = []
lines_from number at names (text ∷ texts) = record { number = unwrap_or number (at + 1); text = shown names text } ∷ lines_from number (at + 1) names texts

abbrev pub text_of : List (List ℕ) → Option ReplacementTable → Span → List Numbered
text_of texts names s = lines_from s.number s.at names (take (s.end - s.at) (drop s.at texts))
