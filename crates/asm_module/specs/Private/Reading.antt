-- What the code's own steps answer.
use Rattle.std.specs.Prelude.{◌≡◌, ℕ, Bool, true, false, List, Result, Ok, Err}
use Rattle.asm_line.specs.declared.fault.ScanFault.{ScanFault}
use Rattle.asm_spell.specs.declared.fault.StmtFault.{StmtFault}
use Rattle.asm_spell.specs.Line.{line_of}
use Rattle.asm_spell.specs.Line as line
use Rattle.asm_spell.specs.declared.line.Line as code
use Rattle.asm_text.specs.Lines.{Numbered}
use Rattle.asm_names.specs.Lines.{lines_of}
use Rattle.asm_macro.specs.declared.fault.MacroFault.{MacroFault}
use Rattle.asm_macro.specs.Expands.{IsExpanded}
use Rattle.asm_module.specs.declared.line_fault.LineFault.{LineFault}
use Rattle.asm_module.specs.declared.reading.Reading.{Reading}
use Rattle.asm_module.specs.Reads.Read.{taken, unread}

abbrev pub is_memory : LineFault → Bool
is_memory (LineFault.Stmt StmtFault.NoMemory) = true
is_memory (LineFault.Scan ScanFault.NoMemory) = true
is_memory why = false

-- What a line parses as, or why it cannot be parsed, is this. If memory ran out, nothing is claimed.
abbrev pub ReadsLine : Result code.Line LineFault → Result line.Line LineFault → Type 0
ReadsLine (Ok l) read = read ≡ Ok (line_of l)
ReadsLine (Err why) read = is_memory why ≡ false → read ≡ Err why

-- The lines are parsed up to the first that cannot be parsed.
pub record Reads (lines : List Numbered) (r : Reading) : Type 0 where
  pub lines_are : lines_of r.lines.items ≡ taken lines
  pub unread_is : r.unread ≡ unread lines

-- The expansion of the source is parsed so, or it stops with this error. If memory ran out, nothing is claimed.
abbrev pub IsReading : List ℕ → Result Reading (ℕ × MacroFault) → Type 0
IsReading text (Ok r) = (lines : List Numbered) × IsExpanded text (Ok lines) × Reads lines r
IsReading text (Err (number, MacroFault.NoMemory)) = Unit {0}
IsReading text (Err (number, why)) = IsExpanded text (Err (number, why))
