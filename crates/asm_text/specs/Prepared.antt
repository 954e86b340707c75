-- A call of a macro that is ready for expansion.
use Rattle.std.specs.Prelude.{◌≡◌, ◌+◌, ◌-◌, ◌∷◌, ◌++◌, [], ℕ, List, Option, Some, None, Vec, length, map, take, drop}
use Rattle.std.specs.Global.{Global}
use Rattle.asm_line.specs.Tokens.{Lexeme}
pub use Rattle.asm_line.specs.Replacing.Replaced.{SaySame}
use Rattle.asm_line.specs.Replacing.Replaced.{ReplacementTable, arguments_of, local_names}
use Rattle.asm_line.specs.Replacing.Views as replaced
use Rattle.asm_text.specs.declared.span.Span.{Span}
use Rattle.asm_text.specs.declared.call.Macro as kept
use Rattle.asm_text.specs.declared.call.Call.{Call}
use Rattle.asm_text.specs.declared.prepared.Prepared.{Prepared}
use Rattle.asm_text.specs.Lines.{Numbered}
use Rattle.asm_text.specs.Calls.{Macro, Opened, arguments_in, opened}
use Rattle.asm_text.specs.Spans.{text_of}

-- the lines of a span as written
abbrev pub body_texts : List (List ℕ) → Span → List (List ℕ)
body_texts all s = take (s.end - s.at) (drop s.at all)

-- what a call replaces each name by
abbrev pub said : Call → ReplacementTable
said c = replaced.replacement_table c.names

abbrev pub macro_seen : List (List ℕ) → kept.Macro → Macro
macro_seen texts m = record { parameters = replaced.texts m.parameters.items; body = map (λ l. l.text) (text_of texts None m.body) }

abbrev pub macros_seen : List (List ℕ) → List (Vec ℕ Global × kept.Macro) → List (List ℕ × Macro)
macros_seen texts entries = map (λ m. (m.0.items, macro_seen texts m.1)) entries

-- the label as a line of its own, if there is one
abbrev pub label_line : ℕ → Option (Vec ℕ Global) → List Numbered
label_line number None = []
label_line number (Some text) = record { number = number; text = text.items } ∷ []

-- What `prepare` answers for a call, given its macro, the calling line, all its tokens, those after the macro's name, and the
-- number of the next LOCAL name. None: a LOCAL line is malformed. Otherwise the replacements, the next number and the lines are
-- those of the call.
abbrev pub Prepares : List (List ℕ) → kept.Macro → List ℕ → List Lexeme → List Lexeme → ℕ → Option Prepared → Type 0
Prepares all m text tokens rest counter None = opened (body_texts all m.body) ≡ None
Prepares all m text tokens rest counter (Some p) =
    (o : Opened) × (opened (body_texts all m.body) ≡ Some o)
    × SaySame (said p.call) (arguments_of (replaced.texts m.parameters.items) (arguments_in text tokens rest) ++ local_names counter o.locals)
    × (p.counter ≡ counter + length o.locals) × (body_texts all p.body ≡ o.lines)
