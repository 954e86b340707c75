-- What `explain --json` prints: each report as an object of JSON, on a line of its own.
use Rattle.std.specs.Prelude.{◌≡◌, ℕ, List, ◌++◌, Option, None, Some, codes, map, string_bytes}
use Rattle.std.specs.List.{flat_map}
use Rattle.serde_json.specs.Data.{Data, null, number, unsigned, string, array, object, member, no_members}
use Rattle.serde_json.specs.View.{items_of}
use Rattle.serde_json.specs.Written.{compact_text}
use Rattle.message_texts.specs.declared.parts.Note.{Note}
use Rattle.message_texts.specs.declared.parts.Note.TheVariants as note
use Rattle.report_texts.specs.Printed.{line_of_place, path_of_place, reports_text, severity_word}
use Rattle.report_texts.specs.declared.printing.Form.{Form}
use Rattle.report_texts.specs.declared.printing.Form.TheVariants as form
use Rattle.report_texts.specs.declared.report.Files.{Files}
use Rattle.report_texts.specs.declared.report.Report.{Report}
use Rattle.report_texts.specs.declared.report.Where.{Where}

-- `{"kind":"help","text":TEXT}`. The members of an object stand in the order of their names.
abbrev pub json_note : Note → Data
json_note (note.Help text) = object (member (codes "kind") (string (codes "help")) (member (codes "text") (string (string_bytes text)) no_members))
json_note (note.Note text) = object (member (codes "kind") (string (codes "note")) (member (codes "text") (string (string_bytes text)) no_members))

-- a report about the program as a whole has no column, no line and no path
abbrev pub json_column : Option Where → Data
json_column None = null
json_column (Some at) = number (unsigned at.column)

abbrev pub json_line_number : Files → Option Where → Data
json_line_number files None = null
json_line_number files (Some at) = number (unsigned (line_of_place files at))

abbrev pub json_path : Files → Option Where → Data
json_path files None = null
json_path files (Some at) = string (path_of_place files at)

abbrev pub json_report : Files → Report → Data
json_report files r = object
    (member (codes "column") (json_column r.at)
    (member (codes "line") (json_line_number files r.at)
    (member (codes "name") (string (string_bytes r.name))
    (member (codes "notes") (array (items_of (map json_note r.notes.items)))
    (member (codes "path") (json_path files r.at)
    (member (codes "severity") (string (severity_word r.severity))
    (member (codes "text") (string (string_bytes r.text)) no_members)))))))

abbrev pub json_report_line : Files → Report → List ℕ
json_report_line files r = compact_text (json_report files r) ++ codes "\n"

-- The text of reports about these files: the first hundred, and how many more there are; as JSON, all of them.
abbrev pub IsPrinted : Files → Form → List Report → List ℕ → Type 0
IsPrinted files form.Json reports text = text ≡ flat_map (json_report_line files) reports
IsPrinted files form reports text = text ≡ reports_text files form reports
