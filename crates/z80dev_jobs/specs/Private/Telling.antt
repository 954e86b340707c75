-- How the labels of a run are read.
use Rattle.std.specs.Prelude.{ℕ, List, Option, Result, Ok, Err}
use Rattle.host.specs.declared.end.End.{End}
use Rattle.z80dev_jobs.specs.Runs.Telling.{AreKnown, AreNotKnown}
use Rattle.z80dev_run.specs.Labelled.{Known}

-- the labels of a program, or how the command ends because they are refused
abbrev pub IsLabelled : Option (List ℕ) → ℕ → Result Known End → Type 0
IsLabelled text size (Ok known) = AreKnown text size known
IsLabelled text size (Err e) = AreNotKnown text e
