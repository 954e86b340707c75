-- What was debugged, by how it ended.
use Rattle.std.proofs.Common.{◌≡◌, ℕ, List, Option, Result, Ok, Err, refl}
use Rattle.std.specs.Result.{IfOk}
use Rattle.host.specs.Streams.Stream.{Stream}
use Rattle.cpm_disk.specs.Calls.{Mounted}
use Rattle.cpm_disk.specs.Image.{Image}
use Rattle.cpm_run.specs.declared.arriving.Arrival.{Arrival}
use Rattle.debugger.specs.Conversation.{DebugsSoFar, DebugsTo}
use Rattle.debugger.specs.declared.conversation.Broken.TheVariants as broken
use Rattle.debugger.specs.declared.debugging.DebugFault.{DebugFault}
use Rattle.debugger.specs.declared.debugging.DebugFault.TheVariants as debug
use Rattle.state_text.specs.Labelled.{Known}
use Rattle.z80dev_run.specs.Program.{DebugsBy}

pub debugs_by : (file : List ℕ) (words : List (List ℕ)) (disk : Mounted Image) (typed : List ℕ) (recorded : List Arrival) (known : Known) (listing : List ℕ) (from left : Option (List ℕ)) (before after : Stream)
    (result : Result Unit DebugFault) → IfOk result (λ _. DebugsTo file words disk typed recorded known listing from left before after)
    → (result ≡ Err (debug.Broken broken.Input) → DebugsSoFar file words disk typed recorded known listing from left before after)
    → DebugsBy file words disk typed recorded known listing from left before after result
debugs_by file words disk typed recorded known listing from left before after (Ok _) to so_far = to
debugs_by file words disk typed recorded known listing from left before after (Err (debug.Broken broken.Input)) to so_far = so_far refl
debugs_by file words disk typed recorded known listing from left before after (Err (debug.Broken broken.Output)) to so_far = tt
debugs_by file words disk typed recorded known listing from left before after (Err (debug.Broken broken.NoMemory)) to so_far = tt
debugs_by file words disk typed recorded known listing from left before after (Err (debug.Start fault)) to so_far = tt
