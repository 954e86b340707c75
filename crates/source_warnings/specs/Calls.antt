-- Calls of macros with too many or too few arguments.
use Rattle.std.specs.Prelude.{◌≢◌, ℕ, ◌-◌, ◌==◌, ◌||◌, false, List, [], ◌∷◌, ◌++◌, Option, Some, None, Ok, Err, if◌then◌else◌, nat_lt, slice_index_or}
use Rattle.std.specs.Str.{bytes_eq}
use Rattle.asm_macro.specs.declared.fault.MacroFault.{MacroFault}
use Rattle.asm_macro.specs.Expands.{IsExpanded}
use Rattle.asm_module.specs.Assembled.{Assembled, Assembles}
use Rattle.asm_module.specs.declared.fault.AsmFault.{AsmFault}
use Rattle.asm_module.specs.declared.fault.Why.{Why}
use Rattle.asm_macro.specs.Texts.{source_lines}
use Rattle.asm_text.specs.Lines.{Numbered, form_of, heard}
use Rattle.source_warnings.specs.declared.warning.Kind.TheVariants as kind
use Rattle.source_warnings.specs.Macros.{argument_count, called_macro, macro_definitions, later_definitions, parameter_count}
use Rattle.source_warnings.specs.Noted.{Noted, first_noted}
use Rattle.source_warnings.specs.Warnings.{SourceWarning, warn}

-- a call with this many arguments, of a macro with this many parameters
abbrev pub counts_say : Numbered → List ℕ → Option ℕ → ℕ → List SourceWarning
counts_say l name (Some parameters) arguments = if parameters == arguments then [] else warn l (kind.Arguments parameters arguments) name
counts_say l name None arguments = []

-- the line with this number
abbrev pub line_numbered : List (List ℕ) → ℕ → List ℕ
line_numbered lines number = slice_index_or lines (number - 1) []

-- A line that calls this macro, given the line that defines it, and a later one that does: only a macro that one line before the call defines
-- is looked at.
abbrev pub call_says : List (List ℕ) → Numbered → List ℕ → Option ℕ → Option ℕ → List SourceWarning
call_says lines l name (Some first) None =
    if nat_lt first l.number
    then counts_say l name (parameter_count (form_of (line_numbered lines first)).rest) (argument_count l.text (heard l.text))
    else []
call_says lines l name _ _ = []

abbrev pub word_says : List (List ℕ) → Noted → Noted → Numbered → Option (List ℕ) → List SourceWarning
word_says lines macros later l None = []
word_says lines macros later l (Some name) = call_says lines l name (first_noted macros name) (first_noted later name)

-- the warnings about a line of the source as it is written, which may be a call
abbrev pub call_warnings : List (List ℕ) → Noted → Noted → Numbered → List SourceWarning
call_warnings lines macros later l = word_says lines macros later l (called_macro (form_of l.text).head)

-- A line of the expansion after one with the number `last`: a call is looked at where the first line is that it gives. A line that is assembled
-- as it is written is no call.
abbrev pub expansion_warnings : List (List ℕ) → Noted → Noted → ℕ → Numbered → List SourceWarning
expansion_warnings lines macros later last l =
    if (l.number == last) || bytes_eq l.text (line_numbered lines l.number) then []
    else call_warnings lines macros later (record { number = l.number; text = line_numbered lines l.number })

-- the warnings about calls, given the lines of a source, the macros that they define, and the lines of the expansion after one with the number `last`
abbrev pub calls_after : List (List ℕ) → Noted → Noted → ℕ → List Numbered → List SourceWarning
calls_after lines macros later last [] = []
calls_after lines macros later last (l ∷ ls) = expansion_warnings lines macros later last l ++ calls_after lines macros later l.number ls

abbrev pub all_calls : List ℕ → List Numbered → List SourceWarning
all_calls text lines = calls_after (source_lines text) (macro_definitions text) (later_definitions text) 0 lines

-- A source without an error has the warnings about its calls. A source with an error has none.
pub data AreCallWarnings (text : List ℕ) : List SourceWarning → Type 0 where
  clean_calls : {lines : List Numbered} {whole : Assembled} → IsExpanded text (Ok lines) → Assembles [] text false (Ok whole) → AreCallWarnings text (all_calls text lines)
  refused_calls : {fault : AsmFault} → fault.why ≢ Why.NoMemory → Assembles [] text false (Err fault) → AreCallWarnings text []
  stopped_calls : {why : MacroFault} (number : ℕ) → why ≢ MacroFault.NoMemory → IsExpanded text (Err (number, why)) → AreCallWarnings text []
