-- The JSON of a report has no number with a point, so its text is known.
use Rattle.std.proofs.Common.{◌≡◌, false, List, [], ◌∷◌, Option, None, Some, map, refl}
use Rattle.serde_json.specs.View.{items_of}
use Rattle.serde_json.specs.Written.{has_float, items_have_float}
use Rattle.message_texts.specs.declared.parts.Note.{Note}
use Rattle.message_texts.specs.declared.parts.Note.TheVariants as note
use Rattle.report_texts.specs.Json.{json_column, json_line_number, json_note, json_path, json_report}
use Rattle.report_texts.specs.declared.report.Files.{Files}
use Rattle.report_texts.specs.declared.report.Report.{Report}
use Rattle.report_texts.specs.declared.report.Where.{Where}

notes : (all : List Note) → items_have_float (items_of (map json_note all)) ≡ false
notes [] = refl
notes (note.Help text ∷ more) = notes more
notes (note.Note text ∷ more) = notes more

column : (at : Option Where) → has_float (json_column at) ≡ false
column None = refl
column (Some at) = refl

line_number : (files : Files) (at : Option Where) → has_float (json_line_number files at) ≡ false
line_number files None = refl
line_number files (Some at) = refl

path : (files : Files) (at : Option Where) → has_float (json_path files at) ≡ false
path files None = refl
path files (Some at) = refl

pub no_float : (files : Files) (r : Report) → has_float (json_report files r) ≡ false
no_float files r = rw (column r.at, line_number files r.at, notes r.notes.items, path files r.at) refl
