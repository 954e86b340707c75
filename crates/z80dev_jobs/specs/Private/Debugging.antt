-- How `debug` reads what it needs.
use Rattle.std.specs.Prelude.{◌≡◌, ℕ, List, [], Option, None, Some, Result, Ok, Err, Vec, map}
use Rattle.std.specs.Borrow.{Bor}
use Rattle.std.specs.Global.{Global}
use Rattle.state_text.specs.Labelled.{symbol_parts}
use Rattle.state_text.specs.declared.labels.Symbol.{Symbol}
use Rattle.disassembler.specs.Reading.{AreLabels, label_parts}
use Rattle.disassembler.specs.declared.labels.Label.{Label}
use Rattle.host.specs.Files.{Folder}
use Rattle.host.specs.declared.end.End.{End}
use Rattle.z80dev_jobs.specs.Runs.Debugging.{IsReadOrNone}
use Rattle.host.specs.Reading.{IsNotReadIfGiven}
use Rattle.z80dev_jobs.specs.Runs.Telling.{AreNotKnown}

abbrev pub ReadsOrNone : Option (Bor (List ℕ)) → Folder → Folder → Result (Vec ℕ Global) End → Type 0
ReadsOrNone path old new (Ok bytes) = (new ≡ old) × IsReadOrNone old path bytes.items
ReadsOrNone path old new (Err e) = IsNotReadIfGiven old new path e

-- the symbols of a file of labels, or none; or the file is refused
abbrev pub AreSymbols : Option (List ℕ) → Result (Vec Symbol Global) End → Type 0
AreSymbols None (Ok symbols) = symbols.items ≡ []
AreSymbols (Some text) (Ok symbols) = (found : Vec Label Global) × AreLabels text (Ok found) × (map symbol_parts symbols.items ≡ map label_parts found.items)
AreSymbols text (Err e) = AreNotKnown text e
