-- The body of a call begins: it becomes the current lines.
use Rattle.std.specs.Prelude.{◌≡◌, ◌+◌, ◌∷◌, ℕ, List}
use Rattle.asm_line.specs.Replacing.Replaced.{ReplacementTable}
use Rattle.asm_text.specs.Calls.{body_lines}
use Rattle.asm_text.specs.Sections.Onward as onward
use Rattle.asm_macro.specs.Ahead.{Rest}

-- the body is the current lines, and after it expansion continues with the lines after the call
abbrev pub Entered : Rest → ℕ → ReplacementTable → List (List ℕ) → ℕ → Rest → Type 0
Entered old number names texts counter new =
    new ≡ record {
      depth = old.depth + 1;
      state = record old.state { counter = counter };
      text = body_lines number names texts;
      around = record { depth = old.depth; next = onward.Rest old.text } ∷ old.around;
    }
