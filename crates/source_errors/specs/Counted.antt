-- Lines of a source, some with errors: which lines they count as when the others are judged, so that an error makes no further ones.
use Rattle.std.specs.Prelude.{ℕ, ◌+◌, ◌-◌, ◌==◌, ◌||◌, ◌&&◌, not, Bool, List, [], ◌∷◌, ◌++◌, Option, Some, None, Result, Ok, Err, if◌then◌else◌, codes, drop, is_ok, length, map, take}
use Rattle.std.specs.List.{flat_map, prefix_len}
use Rattle.std.specs.Option.{option_map, option_to_list}
use Rattle.std.specs.Str.{str_eq_ignore_ascii_case}
use Rattle.common.specs.Words.{upper, is_reserved}
use Rattle.asm_line.specs.Forms.{Head, Equ, Word}
use Rattle.asm_line.specs.Single.{is_name}
use Rattle.asm_line.specs.Tokens.{Lexeme}
use Rattle.asm_text.specs.Lines.{Numbered, form_of}
use Rattle.asm_spell.specs.Line.{Line}
use Rattle.asm_names.specs.Faults.{first}
use Rattle.asm_names.specs.Lines.{Taken}
use Rattle.asm_names.specs.Names.{defines, has_clash, names}
use Rattle.asm_module.specs.Reads.Read.{read_line}
use Rattle.asm_module.specs.Whys.{line_why}
use Rattle.asm_module.specs.declared.fault.Why.{Why}
use Rattle.asm_module.specs.declared.line_fault.LineFault.{LineFault}
use Rattle.source_errors.specs.Findings.{Finding}

-- the text of a token that is a name and not reserved, with a comma after it
abbrev pub free_name : Lexeme → List ℕ
free_name token = if is_name token && not (is_reserved (upper token.text)) then token.text ++ codes "," else []

abbrev pub without_last : List ℕ → List ℕ
without_last line = take (length line - 1) line

-- The line that declares those of these tokens that may be names of externals. It cannot be parsed if there are none.
abbrev pub extrn_of : List Lexeme → List ℕ
extrn_of tokens = without_last (codes "EXTRN " ++ flat_map free_name tokens)

-- whether this is a word of the statement that declares externals
abbrev pub is_extrn_word : List ℕ → Bool
is_extrn_word word = str_eq_ignore_ascii_case word (codes "EXTRN") || str_eq_ignore_ascii_case word (codes "EXTERNAL")

-- The names that a line defines, as a line of its own: a label; an EQU of itself, which has no value; an EXTRN; an empty line if it defines
-- none.
abbrev pub alone_by : Option (List ℕ) → Head → List Lexeme → List ℕ
alone_by label (Equ name) rest = name ++ codes " EQU " ++ name
alone_by (Some name) head rest = name ++ codes ":"
alone_by None (Word word) rest = if is_extrn_word word then extrn_of rest else []
alone_by None head rest = []

abbrev pub defined_name_alone : List ℕ → List ℕ
defined_name_alone text = alone_by (form_of text).label (form_of text).head (form_of text).rest

-- how many bytes come before what follows the first word of a line, given that word
abbrev pub word_end : List ℕ → List ℕ → ℕ
word_end word text = prefix_len (λ byte. (byte == 32) || (byte == 9)) text + length word

-- the line with a colon after its first word, which makes that word a label
abbrev pub with_colon : List ℕ → List ℕ → List ℕ
with_colon word text = word ++ 58 ∷ drop (word_end word text) text

-- What is meant by a line that has an error: if it only lacks the colon after its first word, the line with that colon; otherwise the names
-- that it defines, alone.
abbrev pub meant_by : List ℕ → Option (List ℕ) → Head → List Lexeme → List ℕ
meant_by text None (Word word) (token ∷ rest) =
    if is_ok (read_line (with_colon word text)) then with_colon word text else alone_by None (Word word) (token ∷ rest)
meant_by text label head rest = alone_by label head rest

abbrev pub meant_as : List ℕ → List ℕ
meant_as text = meant_by text (form_of text).label (form_of text).head (form_of text).rest

-- what comes after the first colon of a line
abbrev pub after_colon : List ℕ → List ℕ
after_colon text = drop (prefix_len (λ byte. not (byte == 58)) text + 1) text

-- The texts as which a line may count: itself, what is meant by it, or what comes after its label.
abbrev pub candidates : List ℕ → List (List ℕ)
candidates text = text ∷ meant_as text ∷ after_colon text ∷ []

-- the line as which a text counts after other lines, if it can be parsed and defines no name again
abbrev pub counts_by : List Taken → ℕ → Result Line LineFault → Option Taken
counts_by before number (Ok line) = if has_clash (names before) (defines (length before) line) then None else Some (record { number = number; line = line })
counts_by before number (Err why) = None

abbrev pub counts_as : List Taken → ℕ → List ℕ → Option Taken
counts_as before number text = counts_by before number (read_line text)

-- The line as which a line counts after others: by the first of its texts that can be parsed and defines no name again.
abbrev pub counts : List Taken → Numbered → Option Taken
counts before l = first (map (counts_as before l.number) (candidates l.text))

-- a line, whether it can be parsed, and as which line it counts
pub record Counted : Type 0 where
  pub from : Numbered
  pub is_read : Bool
  pub taken : Taken

abbrev pub takens : List Counted → List Taken
takens lines = map (λ c. c.taken) lines

abbrev pub lines_counted : List Counted → Numbered → List Counted
lines_counted before l = option_to_list (option_map (λ t. record { from = l; is_read = is_ok (read_line l.text); taken = t }) (counts (takens before) l))

-- the lines, each as it counts after those before it
abbrev pub counted_after : List Counted → List Numbered → List Counted
counted_after before [] = before
counted_after before (l ∷ ls) = counted_after (before ++ lines_counted before l) ls

-- The error of a line by itself, given those before it: it cannot be parsed, or it defines a name again.
abbrev pub early_by : List Taken → Numbered → Result Line LineFault → Option Finding
early_by before l (Err why) = Some (record { line = l; why = line_why why; name = None })
early_by before l (Ok line) =
    if has_clash (names before) (defines (length before) line)
    then Some (record { line = l; why = Why.Duplicate; name = None })
    else None

abbrev pub early : List Taken → Numbered → Option Finding
early before l = early_by before l (read_line l.text)

-- the errors of lines by themselves, each given those before it
abbrev pub early_after : List Counted → List Numbered → List Finding
early_after before [] = []
early_after before (l ∷ ls) = option_to_list (early (takens before) l) ++ early_after (before ++ lines_counted before l) ls
