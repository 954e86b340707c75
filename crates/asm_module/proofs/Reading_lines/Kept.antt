-- What holds of the lines that were parsed.
use Rattle.std.proofs.Common.{◌≡◌, refl, ap, All, List, [], ◌∷◌, None, Result, Ok, Err, map}
use Rattle.std.proofs.lemmas.List.Elements.{All-cons, All-nil}
use Rattle.asm_line.specs.declared.fault.ScanFault.{ScanFault}
use Rattle.asm_line.specs.Scanned.{scanned}
use Rattle.asm_line.specs.Tokens.{Lexeme}
use Rattle.asm_spell.specs.declared.fault.StmtFault.{StmtFault}
use Rattle.asm_spell.specs.Line.{Line}
use Rattle.asm_spell.specs.Spelling.{spelled}
use Rattle.asm_text.specs.Lines.{Numbered}
use Rattle.asm_names.specs.Lines.{Taken}
use Rattle.asm_module.specs.Program.Spelled.{IsLineOfText}
use Rattle.asm_module.specs.declared.line_fault.LineFault.{LineFault}
use Rattle.asm_module.specs.Reads.Read.{read_line, scanned_by, spelled_by, taken, unread, unread_or, with_line}

of_spelled : (r : Result Line StmtFault) (line : Line) → spelled_by r ≡ Ok line → r ≡ Ok line
of_spelled (Ok l) line e = cc
of_spelled (Err why) line e = absurd cc

of_scanned : (r : Result (List Lexeme) ScanFault) (line : Line) → scanned_by r ≡ Ok line → (tokens : List Lexeme) × (r ≡ Ok tokens) × (spelled tokens ≡ Ok line)
of_scanned (Ok tokens) line e = (tokens, refl, of_spelled (spelled tokens) line e)
of_scanned (Err why) line e = absurd cc

of_text : (from : Numbered) (line : Line) → read_line from.text ≡ Ok line → IsLineOfText line
of_text from line e =
    let found = of_scanned (scanned from.text) line e in
    record { text = from.text; tokens = found.0; scans = found.1; parses = found.2 }

kept_by : (from : Numbered) (read : Result Line LineFault) (rest : List Taken) → read_line from.text ≡ read → All (λ l. IsLineOfText l.line) rest → All (λ l. IsLineOfText l.line) (with_line from.number read rest)
kept_by from (Ok line) rest is others = All-cons (λ l. IsLineOfText l.line) (record { number = from.number; line = line }) rest (of_text from line is) others
kept_by from (Err why) rest is others = All-nil (λ l. IsLineOfText l.line)

-- Each line that was parsed is one of text.
pub all_of_text : (lines : List Numbered) → All (λ l. IsLineOfText l.line) (taken lines)
all_of_text [] = All-nil (λ l. IsLineOfText l.line)
all_of_text (from ∷ lines) = kept_by from (read_line from.text) (taken lines) refl (all_of_text lines)

numbers_by : (from : Numbered) (lines : List Numbered) (read : Result Line LineFault) → (unread lines ≡ None → map (λ l. l.number) (taken lines) ≡ map (λ l. l.number) lines)
    → unread_or from.number read (unread lines) ≡ None → map (λ l. l.number) (with_line from.number read (taken lines)) ≡ map (λ l. l.number) (from ∷ lines)
numbers_by from lines (Ok line) others e = ap (λ ns. from.number ∷ ns) (others e)
numbers_by from lines (Err why) others e = absurd cc

pub numbers_kept : (lines : List Numbered) → unread lines ≡ None → map (λ l. l.number) (taken lines) ≡ map (λ l. l.number) lines
numbers_kept [] e = refl
numbers_kept (from ∷ lines) e = numbers_by from lines (read_line from.text) (numbers_kept lines) e
