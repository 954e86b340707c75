-- What `read_source` answers.
use Rattle.std.specs.Prelude.{◌≡◌, ℕ, List, [], ◌∷◌, Some, Result, Ok, Err, length}
use Rattle.asm_spell.specs.Line as line
use Rattle.asm_spell.specs.Line.{Line}
use Rattle.asm_macro.specs.declared.fault.MacroFault.{MacroFault}
use Rattle.asm_macro.specs.Expands.{IsExpanded}
use Rattle.asm_macro.specs.Texts.{source_lines}
use Rattle.asm_text.specs.Lines.{Numbered}
use Rattle.asm_names.specs.Lines.{Taken, lines_of}
use Rattle.asm_module.specs.declared.source.SourceText.{SourceText}
use Rattle.asm_module.specs.Reads.Read.{taken, unread}

-- the number of the line if it is an END, otherwise the other number
abbrev pub end_or : ℕ → ℕ → Line → ℕ
end_or number other (line.Statement label (Some (line.End entry))) = number
end_or number other _ = other

-- The last line that a listing shows: the first END, or if there is none the last line of the source.
abbrev pub last_listed : ℕ → List Taken → ℕ
last_listed last [] = last
last_listed last (l ∷ ls) = end_or l.number (last_listed last ls) l.line

-- The lines of the expansion are parsed, or the expansion stops. If memory ran out, nothing is claimed.
abbrev pub IsSourceText : List ℕ → Result SourceText (ℕ × MacroFault) → Type 0
IsSourceText text (Ok s) = (lines : List Numbered) × IsExpanded text (Ok lines) × (lines_of s.lines.items ≡ taken lines) × (s.unread ≡ unread lines)
    × (s.last ≡ last_listed (length (source_lines text)) (taken lines))
IsSourceText text (Err (number, MacroFault.NoMemory)) = Unit {0}
IsSourceText text (Err (number, why)) = IsExpanded text (Err (number, why))
