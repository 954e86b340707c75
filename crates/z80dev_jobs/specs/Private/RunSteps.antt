-- How a program is made ready.
use Rattle.std.specs.Prelude.{◌≡◌, ℕ, List, Option, None, Some, Result, Ok, Err, is_ok, length, true}
use Rattle.host.specs.declared.end.End.{End}
use Rattle.host.specs.Reading.{bytes_in}
use Rattle.z80dev_jobs.specs.Runs.Running.{IsNoDisk, IsNotReady, IsRefusedAs}
use Rattle.z80dev_jobs.specs.Runs.Telling.{AreKnown}
use Rattle.z80dev_run.specs.Labelled.{Known}
use Rattle.z80dev_jobs.specs.declared.runs.running.Inputs.{Inputs}
use Rattle.z80dev_run.specs.Program.{IsReadyToRun}
use Rattle.z80dev_run.specs.declared.running.Ready.{Ready}

-- a program is ready to run, or the image is no disk
abbrev pub MakesReady : Inputs → List (List ℕ) → Result Ready End → Type 0
MakesReady inputs words (Ok made) = IsReadyToRun inputs.program.items words inputs.image.items inputs.typed.items made
MakesReady inputs words (Err e) = IsNoDisk inputs.image.items e

-- the same with its labels
abbrev pub Prepares : Inputs → List (List ℕ) → Result (Ready × Known) End → Type 0
Prepares inputs words (Ok (made, known)) = MakesReady inputs words (Ok made) × AreKnown (bytes_in inputs.labels) (length inputs.program.items) known
Prepares inputs words (Err e) = IsNotReady inputs e

-- a run may write what it is to tell, or this is why it may not
abbrev pub MayTell : Option (List ℕ) → Result Unit End → Type 0
MayTell None result = is_ok result ≡ true
MayTell (Some why) (Ok _) = ⊥
MayTell (Some why) (Err e) = IsRefusedAs why e
