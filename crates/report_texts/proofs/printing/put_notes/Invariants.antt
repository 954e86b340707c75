use Rattle.std.proofs.Common.{◌≡◌, ◌++◌, drop}
use Rattle.std.specs.List.{flat_map}
use Rattle.report_texts.specs.Printed.{note_text}
use Rattle.report_texts.proofs.printing.put_notes.Given as goal

abbrev pub invariant-loop-note : goal.invariant-loop-note
invariant-loop-note l = l.out.items ++ flat_map note_text (drop l.note-index l.notes) ≡ l.fn.out.items ++ flat_map note_text l.notes
