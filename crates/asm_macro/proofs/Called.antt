-- A call of a macro: the lines of its body, with the number of the call.
use Rattle.std.proofs.Common.{◌≡◌, ◌<◌, ◌+◌, ◌∙◌, ap, refl, ℕ, false, nat_le, List, [], ◌∷◌, Option, Some, None, length}
use Rattle.std.proofs.lemmas.Bool.{lt-leb}
use Rattle.asm_macro.specs.declared.take.TheConstants.{MOST_NESTED}
use Rattle.asm_line.specs.Tokens.{Lexeme}
use Rattle.asm_line.specs.Forms.{Form}
use Rattle.asm_text.specs.declared.call.Macro as kept
use Rattle.asm_macro.specs.declared.fault.MacroFault.{MacroFault}
use Rattle.asm_text.specs.Lines.{Numbered}
use Rattle.asm_macro.specs.State as state
use Rattle.asm_text.specs.Calls.{Macro, Opened, arguments_in, body_lines, label_lines, opened, table_of}
use Rattle.asm_text.specs.Sections.Onward as onward
use Rattle.asm_macro.specs.Parts as parts
use Rattle.asm_macro.specs.Ahead.{Around}
use Rattle.asm_text.specs.Spans.{lines_from}
use Rattle.asm_macro.specs.Private.Moves.{Fails, On, moved}
use Rattle.asm_text.specs.Prepared.{macro_seen, body_texts}

texts_from : (at : ℕ) (number : Option ℕ) (texts : List (List ℕ)) → parts.line_texts (lines_from number at None texts) ≡ texts
texts_from at number [] = refl
texts_from at number (t ∷ ts) = ap (λ xs. t ∷ xs) (texts_from (at + 1) number ts)

pub opened_is : (all : List (List ℕ)) (m : kept.Macro) (o : Option Opened) → opened (body_texts all m.body) ≡ o → opened (macro_seen all m).body ≡ o
opened_is all m o e = ap opened (texts_from m.body.at m.body.number (body_texts all m.body)) ∙ e

pub called_on : (depth : ℕ) (around : List Around) (e : state.State) (l : Numbered) (f : Form) (tokens : List Lexeme) (rest : List Numbered) (name : List ℕ) (found : Option Macro) (m : Macro) (o : Opened)
    → found ≡ Some m → depth < MOST_NESTED → opened m.body ≡ Some o
    → moved depth around (parts.word_part depth e l f tokens rest name found) ≡ On (label_lines f.label l tokens) (record {
      depth = depth + 1;
      state = record e { counter = e.counter + length o.locals };
      text = body_lines l.number (table_of m (arguments_in l.text tokens f.rest) e.counter o.locals) o.lines;
      around = record { depth = depth; next = onward.Rest rest } ∷ around;
    })
called_on depth around e l f tokens rest name found m o is h op = let deep : nat_le MOST_NESTED depth ≡ false = lt-leb MOST_NESTED depth h in rw (is, deep, op) refl

pub called_off : (depth : ℕ) (around : List Around) (e : state.State) (l : Numbered) (f : Form) (tokens : List Lexeme) (rest : List Numbered) (name : List ℕ) (found : Option Macro) (m : Macro)
    → found ≡ Some m → depth < MOST_NESTED → opened m.body ≡ None
    → moved depth around (parts.word_part depth e l f tokens rest name found) ≡ Fails (label_lines f.label l tokens) l.number MacroFault.Stray
called_off depth around e l f tokens rest name found m is h op = let deep : nat_le MOST_NESTED depth ≡ false = lt-leb MOST_NESTED depth h in rw (is, deep, op) refl
