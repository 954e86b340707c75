-- The body of a call begins.
use Rattle.std.proofs.Common.{◌≡◌, ◌+◌, ◌∙◌, sym, ap, refl, ℕ, List, [], ◌∷◌, Option, Some, None, reverse, length, arith}
use Rattle.asm_line.specs.Tokens.{Lexeme}
use Rattle.asm_line.specs.Replacing.Replaced.{ReplacementTable, replaced_tokens}
use Rattle.asm_macro.specs.declared.expansion.Expansion.{Expansion}
use Rattle.asm_text.specs.declared.span.Span.{Span}
use Rattle.asm_text.specs.declared.following.Following.{Following}
use Rattle.asm_text.specs.Lines.{heard}
use Rattle.asm_text.specs.Calls.{body_lines, replaced_by, replaced_line}
use Rattle.asm_text.specs.Sections.Onward as onward
use Rattle.asm_macro.specs.Private.Entering.{Entered}
use Rattle.asm_macro.specs.Private.Frames.{around_seen, innermost, turns_in}
use Rattle.asm_text.specs.Spans.{lines_from, text_of}
use Rattle.asm_macro.specs.Private.Moves.{IsSound, rest_of, state_of, tables_in}
use Rattle.asm_text.specs.Prepared.{SaySame, body_texts}

abbrev pub Replaces : Type 0
Replaces = (t u : ReplacementTable) → SaySame t u → (line : List ℕ) (tokens : List Lexeme) → replaced_tokens t line tokens ≡ replaced_tokens u line tokens

by_tokens : Replaces → (t u : ReplacementTable) → SaySame t u → (line : List ℕ) (tokens : Option (List Lexeme)) → replaced_by t line tokens ≡ replaced_by u line tokens
by_tokens law t u same line (Some tokens) = law t u same line tokens
by_tokens law t u same line None = refl

lines_are : Replaces → (t u : ReplacementTable) → SaySame t u → (number at : ℕ) (texts : List (List ℕ)) → lines_from (Some number) at (Some t) texts ≡ body_lines number u texts
lines_are law t u same number at [] = refl
lines_are law t u same number at (x ∷ xs) =
    ap (λ y. record { number = number; text = y } ∷ lines_from (Some number) (at + 1) (Some t) xs) (by_tokens law t u same x (heard x))
    ∙ ap (λ ls. record { number = number; text = replaced_line u x } ∷ ls) (lines_are law t u same number (at + 1) xs)

pub entered : Replaces → (x : Expansion) (tables : List ReplacementTable) (around : List Following) (t u : ReplacementTable) (number counter : ℕ) (body : Span) → IsSound x → SaySame t u
    → tables ≡ t ∷ tables_in x → around ≡ Following.Rest x.text ∷ reverse x.around.items
    → Entered (rest_of x) number u (body_texts x.lines body) counter (record {
      depth = length tables + x.turns;
      state = record (state_of x) { counter = counter };
      text = text_of x.lines (innermost tables) (record body { number = Some number });
      around = around_seen x.lines tables around;
    })
entered law x tables around t u number counter body sound same is out =
    let depth : length (t ∷ tables_in x) + x.turns ≡ (length (tables_in x) + x.turns) + 1 = omega arith in
    let lines = lines_are law t u same number body.at (body_texts x.lines body) in
    let next = onward.Rest (text_of x.lines (innermost (tables_in x)) x.text) in
    ap (λ ts. record { depth = length ts + x.turns; state = record (state_of x) { counter = counter }; text = text_of x.lines (innermost ts) (record body { number = Some number }); around = around_seen x.lines ts around }) is
    ∙ ap (λ fs. record { depth = length (t ∷ tables_in x) + x.turns; state = record (state_of x) { counter = counter }; text = text_of x.lines (Some t) (record body { number = Some number }); around = around_seen x.lines (t ∷ tables_in x) fs }) out
    ∙ ap (λ d. record { depth = d; state = record (state_of x) { counter = counter }; text = text_of x.lines (Some t) (record body { number = Some number }); around = record { depth = length (tables_in x) + turns_in (reverse x.around.items); next = next } ∷ (rest_of x).around }) depth
    ∙ ap (λ ls. record { depth = (rest_of x).depth + 1; state = record (state_of x) { counter = counter }; text = ls; around = record { depth = length (tables_in x) + turns_in (reverse x.around.items); next = next } ∷ (rest_of x).around }) lines
    ∙ ap (λ n. record { depth = (rest_of x).depth + 1; state = record (state_of x) { counter = counter }; text = body_lines number u (body_texts x.lines body); around = record { depth = length (tables_in x) + n; next = next } ∷ (rest_of x).around }) (sym sound.turns)
