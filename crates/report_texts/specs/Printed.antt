-- What `explain` prints of its reports.
use Rattle.std.specs.Prelude.{◌≡◌, ℕ, ◌+◌, ◌-◌, ◌==◌, ◌&&◌, ◌||◌, nat_le, nat_lt, List, [], ◌∷◌, ◌++◌, Option, None, Some, codes, decimal, if◌then◌else◌, length, map, max, replicate, string_bytes, take}
use Rattle.std.specs.List.{flat_map}
use Rattle.std.specs.Option.{option_map_or}
use Rattle.report_texts.specs.declared.printing.Form.{Form}
use Rattle.report_texts.specs.declared.printing.Form.TheVariants as form
use Rattle.message_texts.specs.declared.parts.Note.{Note}
use Rattle.message_texts.specs.declared.parts.Note.TheVariants as note
use Rattle.report_texts.specs.Front.{own_place, path_at}
use Rattle.report_texts.specs.declared.report.Files.{Files}
use Rattle.report_texts.specs.declared.report.Report.{Report}
use Rattle.report_texts.specs.declared.report.Severity.{Severity}
use Rattle.report_texts.specs.declared.report.Severity.TheVariants as severity
use Rattle.report_texts.specs.declared.report.Where.{Where}

abbrev pub escape : ℕ
escape = 0x1B

-- a text in a colour, given by the number of ECMA-48, if there are colours
abbrev pub colored : Form → List ℕ → List ℕ → List ℕ
colored form.Colored color text = escape ∷ codes "[" ++ color ++ codes "m" ++ text ++ escape ∷ codes "[0m"
colored _ color text = text

abbrev pub severity_word : Severity → List ℕ
severity_word severity.Error = codes "error"
severity_word severity.Warning = codes "warning"
severity_word severity.Note = codes "note"

-- red, magenta, cyan
abbrev pub severity_color : Severity → List ℕ
severity_color severity.Error = codes "1;31"
severity_color severity.Warning = codes "1;35"
severity_color severity.Note = codes "1;36"

-- Where the line of a place is written: its file, and its number there.
abbrev pub printed_place : Files → Where → List ℕ × ℕ
printed_place files at = own_place files.front (path_at files.sources.now at.source) at.written

abbrev pub path_of_place : Files → Where → List ℕ
path_of_place files at = (printed_place files at).0

abbrev pub line_of_place : Files → Where → ℕ
line_of_place files at = (printed_place files at).1

-- `PATH:LINE:COLUMN: `
abbrev pub location_text : Files → Where → List ℕ
location_text files at = path_of_place files at ++ codes ":" ++ decimal (line_of_place files at) ++ codes ":" ++ decimal at.column ++ codes ": "

-- a report about the program as a whole has no place
abbrev pub report_place : Files → Form → Option Where → List ℕ
report_place files form None = []
report_place files form (Some at) = colored form (codes "1") (location_text files at)

-- ` [NAME]`
abbrev pub bracketed_name : List ℕ → List ℕ
bracketed_name [] = []
bracketed_name name = codes " [" ++ name ++ codes "]"

-- `PATH:LINE:COLUMN: error: TEXT [NAME]`
abbrev pub heading_text : Files → Form → Report → List ℕ
heading_text files form r = report_place files form r.at ++ colored form (severity_color r.severity) (severity_word r.severity ++ codes ": ") ++ string_bytes r.text ++ bracketed_name (string_bytes r.name) ++ codes "\n"

-- a byte of a line is shown if it is printable ASCII or a tab, otherwise as ?
abbrev pub shown_byte : ℕ → ℕ
shown_byte byte = if (byte == 0x09) || (nat_le 0x20 byte && nat_le byte 0x7E) then byte else 0x3F

-- below a tab is a tab, so that the carets are where the part begins
abbrev pub below : ℕ → ℕ
below byte = if byte == 0x09 then 0x09 else 0x20

-- the line of a place after its number
abbrev pub line_after_number : ℕ → Where → List ℕ
line_after_number line at = codes "  " ++ decimal line ++ codes " | " ++ map shown_byte at.text.items ++ codes "\n"

-- carets under the part that a report is about, at least one
abbrev pub caret_line : Form → ℕ → Where → List ℕ
caret_line form line at =
    codes "  " ++ replicate (length (decimal line)) 0x20 ++ codes " | " ++ map below (take at.place.at at.text.items)
    ++ colored form (codes "1;32") (replicate (max 1 at.place.len) 0x5E) ++ codes "\n"

abbrev pub report_line : Files → Form → Where → List ℕ
report_line files form at = line_after_number (line_of_place files at) at ++ caret_line form (line_of_place files at) at

-- an empty line is not shown
abbrev pub shown_line : Files → Form → Where → List ℕ → List ℕ
shown_line files form at [] = []
shown_line files form at text = report_line files form at

abbrev pub report_lines : Files → Form → Option Where → List ℕ
report_lines files form None = []
report_lines files form (Some at) = shown_line files form at at.text.items

abbrev pub note_text : Note → List ℕ
note_text (note.Help text) = codes "  help: " ++ string_bytes text ++ codes "\n"
note_text (note.Note text) = codes "  note: " ++ string_bytes text ++ codes "\n"

abbrev pub report_text : Files → Form → Report → List ℕ
report_text files form r = heading_text files form r ++ report_lines files form r.at ++ flat_map note_text r.notes.items

-- how many more there are
abbrev pub left_out_text : ℕ → List ℕ
left_out_text count = if nat_lt 100 count then decimal (count - 100) ++ codes " more\n" else []

-- the first hundred reports, and how many more there are
abbrev pub reports_text : Files → Form → List Report → List ℕ
reports_text files form reports = flat_map (report_text files form) (take 100 reports) ++ left_out_text (length reports)
