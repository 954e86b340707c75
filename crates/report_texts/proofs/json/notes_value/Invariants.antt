use Rattle.std.proofs.Common.{◌≡◌, map, take}
use Rattle.serde_json.specs.View.{view}
use Rattle.report_texts.specs.Json.{json_note}
use Rattle.report_texts.proofs.json.notes_value.Given as goal

abbrev pub invariant-loop-note : goal.invariant-loop-note
invariant-loop-note l = map view l.values.items ≡ take l.note-index (map json_note l.notes)
