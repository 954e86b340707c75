-- The front: what comes before each source. Definitions from the command line come first, then shared files.
use Rattle.std.specs.Prelude.{◌≡◌, ◌<◌, ◌^◌, ℕ, ◌+◌, ◌-◌, ◌==◌, ◌&&◌, not, Bool, true, false, List, [], ◌∷◌, ◌++◌, Option, Some, None, codes, drop, if◌then◌else◌, length, nat_le, nat_lt, slice_get, take}
use Rattle.std.specs.Borrow.{Bor}
use Rattle.std.specs.List.{count_by, flat_map, list_all, prefix_len, sum_by}
use Rattle.std.specs.Option.{option_map}
use Rattle.asm_macro.specs.Texts.{source_part}
use Rattle.asm_macro.specs.declared.fault.MacroFault.{MacroFault}
use Rattle.common.specs.declared.limits.TheConstants.{LONGEST_TEXT}
use Rattle.zlink.specs.Types.{AsmFault, Why}
use Rattle.report_texts.specs.declared.front.SourceFile.{SourceFile}
use Rattle.report_texts.specs.declared.front.Front.{Front}
use Rattle.report_texts.specs.declared.faults.refusal.Refusal.TheVariants as refusal
use Rattle.report_texts.specs.Faults.Names.{why_name}
use Rattle.report_texts.specs.Lines.{line_count}
use Rattle.report_texts.specs.Faults.Refusals.{line_text, of_source, program_refusal_text}

abbrev pub end_of_line : List ℕ
end_of_line = 0x0A ∷ []

-- a word NAME=VALUE: what comes before its first `=`, and what comes after it
abbrev pub name_length : List ℕ → ℕ
name_length word = prefix_len (λ byte. not (byte == 0x3D)) word

abbrev pub defined_name : List ℕ → List ℕ
defined_name word = take (name_length word) word

abbrev pub defined_value : List ℕ → List ℕ
defined_value word = drop (name_length word + 1) word

-- the line of a word NAME=VALUE
abbrev pub define_line : List ℕ → List ℕ
define_line word = defined_name word ++ codes " EQU " ++ defined_value word

-- the line end that a text lacks, given its last byte
abbrev pub missing_end : Option ℕ → List ℕ
missing_end None = []
missing_end (Some byte) = if byte == 0x0A then [] else end_of_line

abbrev pub with_end : List ℕ → List ℕ
with_end text = text ++ missing_end (slice_get text (length text - 1))

-- The text of the front: a line for each word, then each shared file up to its first byte 1AH. A line end is added to a file whose last line
-- has none.
abbrev pub front_text : Front → List ℕ
front_text front =
    flat_map (λ word. define_line word.now ++ end_of_line) front.defines.now ++ flat_map (λ file. with_end (source_part file.text.now)) front.files.now

-- a byte that may be in a word: it is no line feed and not 1AH, which would end a line or the text
abbrev pub is_word_byte : ℕ → Bool
is_word_byte byte = not (byte == 0x0A) && not (byte == 0x1A)

abbrev pub have_word_bytes : List (Bor (List ℕ)) → Bool
have_word_bytes words = list_all (λ word. list_all is_word_byte word.now) words

-- how many lines the front has
abbrev pub front_lines : Front → ℕ
front_lines front = length front.defines.now + sum_by line_count front.files.now

-- Taken from the number of a line, `lines` give the same as `all`. They may be fewer, if both are higher than any number of a line.
abbrev pub CountsLines : ℕ → ℕ → Type 0
CountsLines lines all = (line : ℕ) → line < 2 ^ 32 → line - lines ≡ line - all

-- the number of a line without this many lines before it
abbrev pub earlier : ℕ → ℕ → ℕ
earlier lines line = line - lines

-- the path and the own number of a line of shared files, one after the other; if they have fewer lines, it is a line of the source with this
-- path
abbrev pub line_in : List SourceFile → List ℕ → ℕ → List ℕ × ℕ
line_in [] path line = (path, line)
line_in (file ∷ files) path line = if nat_le line (line_count file) then (file.path.now, line) else line_in files path (line - line_count file)

-- a word of the command line counts as a file of one line
abbrev pub word_or_file : Option (List ℕ) → List ℕ × ℕ → List ℕ × ℕ
word_or_file (Some word) at = (word, 1)
word_or_file None at = at

abbrev pub word_of_line : Front → ℕ → Option (List ℕ)
word_of_line front line = option_map (λ word. word.now) (slice_get front.defines.now (line - 1))

-- The path and the own number of a line of the front, or of the source with this path after it.
abbrev pub own_place : Front → List ℕ → ℕ → List ℕ × ℕ
own_place front path line = word_or_file (word_of_line front line) (line_in front.files.now path (line - length front.defines.now))

abbrev pub source_path : Option SourceFile → List ℕ
source_path None = []
source_path (Some file) = file.path.now

-- the path of a source, given its number
abbrev pub path_at : List SourceFile → ℕ → List ℕ
path_at files number = source_path (slice_get files number)

-- an error in the line of a word is reported with the word, any other with the path and the number of its line
abbrev pub word_or_line : Option (List ℕ) → List ℕ × ℕ → Why → List ℕ
word_or_line (Some word) at why = program_refusal_text word (refusal.Define why)
word_or_line None at why = program_refusal_text at.0 (of_source (record { line = at.1; why = why }))

-- The text of an error in a line of the front, or of a source after it. The path is that of the source.
abbrev pub front_fault_text : Front → List ℕ → AsmFault → List ℕ
front_fault_text front path fault =
    word_or_line (word_of_line front fault.line) (line_in front.files.now path (fault.line - length front.defines.now)) fault.why

abbrev pub is_too_long : Why → Bool
is_too_long (Why.Macro MacroFault.TooManyLines) = true
is_too_long why = false

-- how many lines end in a text
abbrev pub line_ends : List ℕ → ℕ
line_ends text = count_by (λ byte. byte == 0x0A) text

-- the line of a text with its first byte too many
abbrev pub overlong_line : List ℕ → ℕ
overlong_line text = line_ends (take LONGEST_TEXT text) + 1

-- An error of a text, in its line. If the text is longer than a source may be, the assembler finds the error in the first line. It is in the
-- line with the first byte too many.
abbrev pub in_its_line : List ℕ → AsmFault → AsmFault
in_its_line text fault = if is_too_long fault.why && nat_lt LONGEST_TEXT (length text) then record fault { line = overlong_line text } else fault

-- The text of an error that the front has by itself.
abbrev pub own_fault_text : Front → AsmFault → List ℕ
own_fault_text front fault = front_fault_text front [] (in_its_line (front_text front) fault)

-- The text of an error of a source after the front. If both together are longer than a source may be, the error is in their first line. It is
-- reported for the first line of the source, since the front by itself is not too long.
abbrev pub source_fault_text : Front → List ℕ → AsmFault → List ℕ
source_fault_text front path fault =
    if is_too_long fault.why && nat_le fault.line (front_lines front) then line_text path 1 (why_name fault.why) else front_fault_text front path fault
