-- What the lines of an expansion parse as.
use Rattle.std.specs.Prelude.{ℕ, List, [], ◌∷◌, Option, Some, None, Result, Ok, Err}
use Rattle.asm_line.specs.declared.fault.ScanFault.{ScanFault}
use Rattle.asm_line.specs.Scanned.{scanned}
use Rattle.asm_line.specs.Tokens.{Lexeme}
use Rattle.asm_spell.specs.declared.fault.StmtFault.{StmtFault}
use Rattle.asm_spell.specs.Line.{Line}
use Rattle.asm_spell.specs.Spelling.{spelled}
use Rattle.asm_text.specs.Lines.{Numbered}
use Rattle.asm_names.specs.Lines.{Taken}
use Rattle.asm_module.specs.declared.line_fault.LineFault.{LineFault}

abbrev pub spelled_by : Result Line StmtFault → Result Line LineFault
spelled_by (Ok line) = Ok line
spelled_by (Err why) = Err (LineFault.Stmt why)

abbrev pub scanned_by : Result (List Lexeme) ScanFault → Result Line LineFault
scanned_by (Ok tokens) = spelled_by (spelled tokens)
scanned_by (Err why) = Err (LineFault.Scan why)

-- what a line parses as, or why it cannot be parsed
abbrev pub read_line : List ℕ → Result Line LineFault
read_line text = scanned_by (scanned text)

-- if the line can be parsed, it is put before the others; otherwise the list is empty
abbrev pub with_line : ℕ → Result Line LineFault → List Taken → List Taken
with_line number (Ok line) rest = record { number = number; line = line } ∷ rest
with_line number (Err why) rest = []

-- The lines before the first that cannot be parsed.
abbrev pub taken : List Numbered → List Taken
taken [] = []
taken (l ∷ ls) = with_line l.number (read_line l.text) (taken ls)

abbrev pub unread_or : ℕ → Result Line LineFault → Option (ℕ × LineFault) → Option (ℕ × LineFault)
unread_or number (Ok line) rest = rest
unread_or number (Err why) rest = Some (number, why)

-- The first line that cannot be parsed, and why.
abbrev pub unread : List Numbered → Option (ℕ × LineFault)
unread [] = None
unread (l ∷ ls) = unread_or l.number (read_line l.text) (unread ls)
