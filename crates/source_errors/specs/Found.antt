-- All errors of a source.
use Rattle.std.specs.Prelude.{◌≡◌, ◌≢◌, ℕ, zero, suc, ◌-◌, ◌==◌, ◌&&◌, ◌||◌, not, Bool, List, [], ◌∷◌, ◌++◌, Option, Some, None, Result, Ok, Err, false, filter, if◌then◌else◌, is_none, length, slice_index_or, take, true}
use Rattle.std.specs.List.{filter_map, flat_map, list_any}
use Rattle.std.specs.Option.{option_map}
use Rattle.std.specs.Str.{bytes_eq}
use Rattle.asm_line.specs.declared.fault.ScanFault.{ScanFault}
use Rattle.asm_line.specs.Scanned.{scanned}
use Rattle.asm_line.specs.Tokens.{Lexeme}
use Rattle.asm_macro.specs.declared.fault.MacroFault.{MacroFault}
use Rattle.asm_macro.specs.Expands.{IsExpanded}
use Rattle.asm_macro.specs.Faults.{fault_of_scan}
use Rattle.asm_macro.specs.Texts.{numbered, source_lines}
use Rattle.asm_text.specs.Lines.{Numbered}
use Rattle.asm_names.specs.Faults.{first_name_fault}
use Rattle.asm_names.specs.declared.fault.NameFault.{NameFault}
use Rattle.asm_module.specs.declared.statements.outlining.Outline.{Outline}
use Rattle.asm_module.specs.Outlines.{IsOutline}
use Rattle.asm_module.specs.Whys.{macro_why, name_why}
use Rattle.asm_module.specs.declared.fault.Why.{Why}
use Rattle.source_errors.specs.Counted.{counted_after, early_after, defined_name_alone, takens}
use Rattle.source_errors.specs.Findings.{Finding}
use Rattle.source_errors.specs.Judged.{late_errors}

-- An error about a line as a whole.
abbrev pub plain : ℕ → List ℕ → Why → Finding
plain number text why = record { line = record { number = number; text = text }; why = why; name = None }

-- the line of a source with this number
abbrev pub line_at : List ℕ → ℕ → List ℕ
line_at text number = slice_index_or (source_lines text) (number - 1) []

-- The errors of the lines of an expansion: of each by itself; and if there are not too many statements or names, of each given all names.
pub data AreErrors (grow : Bool) (lines : List Numbered) : List Finding → Type 0 where
  many : {number : ℕ} {why : NameFault} → first_name_fault (takens (counted_after [] lines)) ≡ Some (number, why)
      → AreErrors grow lines (early_after [] lines ++ plain number [] (name_why why) ∷ [])
  all : {o : Outline} → first_name_fault (takens (counted_after [] lines)) ≡ None → IsOutline grow (takens (counted_after [] lines)) o
      → AreErrors grow lines (early_after [] lines ++ late_errors (counted_after [] lines) o)

-- A line that cannot be cut into tokens stops the expansion. So that other errors are found too, each such line counts as the name that it
-- defines alone, as far as its front tells.

abbrev pub fault_by : Result (List Lexeme) ScanFault → Option ScanFault
fault_by (Ok tokens) = None
fault_by (Err why) = Some why

-- why a line cannot be cut into tokens, if it cannot
abbrev pub scan_fault : List ℕ → Option ScanFault
scan_fault line = fault_by (scanned line)

-- the longest front of at most this many bytes that can be cut into tokens
abbrev pub front : ℕ → List ℕ → List ℕ
front zero line = []
front (suc k) line = if is_none (scan_fault (take (suc k) line)) then take (suc k) line else front k line

abbrev pub mended : List ℕ → List ℕ
mended line = if is_none (scan_fault line) then line else defined_name_alone (front (length line) line)

abbrev pub mended_text : List ℕ → List ℕ
mended_text text = flat_map (λ line. mended line ++ 10 ∷ []) (source_lines text)

-- the error of a line that cannot be cut into tokens, if the expansion reads it and it is not the line with the number `other`
abbrev pub scan_error : ℕ → List Numbered → Numbered → Option Finding
scan_error other lines l =
    if not (l.number == other) && list_any (λ m. m.number == l.number) lines
    then option_map (λ why. plain l.number l.text (macro_why (fault_of_scan why))) (scan_fault l.text)
    else None

abbrev pub scan_errors : ℕ → List Numbered → List ℕ → List Finding
scan_errors other lines text = filter_map (scan_error other lines) (numbered 1 (source_lines text))

abbrev pub is_circle : Why → Bool
is_circle Why.EquCircle = true
is_circle why = false

-- An EQU line that cannot be cut into tokens counts as the line NAME EQU NAME, so that its name has no value. If the source does not have
-- this line at its number, its circle is none of the source.
abbrev pub is_made_circle : List ℕ → Finding → Bool
is_made_circle text f = is_circle f.why && bytes_eq f.line.text (defined_name_alone f.line.text) && not (bytes_eq f.line.text (line_at text f.line.number))

-- An error of the text as which a line counts that cannot be cut into tokens. That error of tokens is reported already.
abbrev pub is_of_mended : List ℕ → Finding → Bool
is_of_mended line f = not (is_none (scan_fault line)) && bytes_eq f.line.text (mended line)

-- The error is none of the source, only of the texts as which its lines count.
abbrev pub is_made : List ℕ → Finding → Bool
is_made text f = is_made_circle text f || is_of_mended (line_at text f.line.number) f

abbrev pub without_made : List ℕ → List Finding → List Finding
without_made text found = filter (λ f. not (is_made text f)) found

-- An expansion stops since a line cannot be cut into tokens.
abbrev pub is_of_tokens : MacroFault → Bool
is_of_tokens (MacroFault.Scan why) = true
is_of_tokens MacroFault.LineTooLong = true
is_of_tokens why = false

-- The errors of the other lines, if the expansion stops for tokens at a line with this number: those of the expansion in which lines that
-- cannot be cut into tokens are mended; none if that expansion stops too.
pub data AreOthers (grow : Bool) (text : List ℕ) (number : ℕ) : List Finding → Type 0 where
  unknown : (stop : ℕ × MacroFault) → stop.1 ≢ MacroFault.NoMemory → IsExpanded (mended_text text) (Err stop) → AreOthers grow text number []
  known : {lines : List Numbered} {found : List Finding} → IsExpanded (mended_text text) (Ok lines) → AreErrors grow lines found
      → AreOthers grow text number (scan_errors number lines text ++ without_made text found)

-- All errors of a source: those of the lines of its expansion; or if that stops, this error, and if it stops for tokens, those of the other
-- lines.
pub data AreFindings (grow : Bool) (text : List ℕ) : List Finding → Type 0 where
  whole : {lines : List Numbered} {found : List Finding} → IsExpanded text (Ok lines) → AreErrors grow lines found → AreFindings grow text found
  stopped : {number : ℕ} (why : MacroFault) → why ≢ MacroFault.NoMemory → IsExpanded text (Err (number, why)) → is_of_tokens why ≡ false
      → AreFindings grow text (plain number (line_at text number) (macro_why why) ∷ [])
  mends : {number : ℕ} {others : List Finding} (why : MacroFault) → IsExpanded text (Err (number, why)) → is_of_tokens why ≡ true → AreOthers grow text number others
      → AreFindings grow text (plain number (line_at text number) (macro_why why) ∷ others)
