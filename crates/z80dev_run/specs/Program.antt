-- What the command `run` does with the bytes of its files and of standard input.
use Rattle.std.specs.Prelude.{◌≡◌, ℕ, List, Ok, Err, Option, Result, length, map}
use Rattle.std.specs.List.{concat}
use Rattle.host.specs.Streams.Stream.{Stream}
use Rattle.cpm_console.specs.Dialog.{Dialog, dialog_of}
use Rattle.cpm_disk.specs.Calls.{Mounted}
use Rattle.cpm_disk.specs.Image.{Image}
use Rattle.cpm_run.specs.declared.tracing.Left.{Left}
use Rattle.cpm_run.specs.Play.{IsPlayed, IsReplayed}
use Rattle.cpm_console.specs.Seat.{Seat}
use Rattle.cpm_run.specs.Run.{IsRun}
use Rattle.cpm_run.specs.declared.arriving.Arrival.{Arrival}
use Rattle.cpm_run.specs.declared.arriving.PlayEnd.{PlayEnd}
use Rattle.cpm_run.specs.Walks.{IsTraced}
use Rattle.cpm_run.specs.declared.recording.Record.{Record}
use Rattle.cpm_run.specs.declared.recording.Wish.{Wish}
use Rattle.cpm_run.specs.declared.ending.Why.{Why}
use Rattle.debugger.specs.Conversation.{DebugsSoFar, DebugsTo}
use Rattle.debugger.specs.declared.conversation.Broken.TheVariants as broken
use Rattle.debugger.specs.declared.debugging.DebugFault.{DebugFault}
use Rattle.debugger.specs.declared.debugging.DebugFault.TheVariants as debug
use Rattle.state_text.specs.Labelled.{Known}
use Rattle.z80dev_disk.specs.Disks.{IsMounted}
use Rattle.z80dev_run.specs.Input.{typed}
use Rattle.z80dev_run.specs.declared.running.Ready.{Ready}

-- A program that is ready to run: the program and its words, the disk with this image, and what is typed according to standard input.
pub record IsReadyToRun (program : List ℕ) (words : List (List ℕ)) (image input : List ℕ) (ready : Ready) : Type 0 where
  pub program_is : ready.program.now ≡ program
  pub words_are : map (λ w. w.now) ready.words.items ≡ words
  pub disk_is : IsMounted image (Ok ready.disk)
  pub typed_is : ready.typed.items ≡ typed input

-- The program was run with its words on the disk with this image, with what is typed, and with a console that begins with the bytes and
-- the failures of a stream. `left` is the image of the disk at the end, and the stream then has the output and the faults of the console.
abbrev pub IsRan : List ℕ → List (List ℕ) → List ℕ → List ℕ → Stream → ℕ → Why → ℕ → ℕ → List ℕ → Stream → Type 0
IsRan file words image input before steps end turns pc left after =
    (disk : Mounted Image) × (then : Mounted Image) × (console : Dialog) × IsMounted image (Ok disk)
    × IsRun (λ sectors. sectors) (λ sectors. 0) (λ dialog. dialog) file words disk (dialog_of (typed input) before.bytes before.failures) steps end turns pc then console
    × (left ≡ concat then.device) × (after.bytes ≡ console.output) × (after.failures ≡ console.faults)

-- The same run, and what it keeps: the machine and the system at the end, and what was asked for of its steps.
abbrev pub IsTracedRan : List ℕ → List (List ℕ) → List ℕ → List ℕ → Stream → ℕ → Wish → Why → ℕ → Option Left → Option Record → Type 0
IsTracedRan file words image input before steps wish end turns state kept =
    (disk : Mounted Image) × IsMounted image (Ok disk)
    × IsTraced (λ sectors. sectors) (λ sectors. 0) (λ dialog. dialog) file words disk (dialog_of (typed input) before.bytes before.failures) steps wish end turns state kept

-- The answers to the commands were printed, or if a read failed, those to the lines that had ended. If it broke in another way, this does not say
-- which were.
abbrev pub DebugsBy : List ℕ → List (List ℕ) → Mounted Image → List ℕ → List Arrival → Known → List ℕ → Option (List ℕ) → Option (List ℕ) → Stream → Stream → Result Unit DebugFault → Type 0
DebugsBy file words disk typed recorded known listing from left before after (Ok _) = DebugsTo file words disk typed recorded known listing from left before after
DebugsBy file words disk typed recorded known listing from left before after (Err (debug.Broken broken.Input)) = DebugsSoFar file words disk typed recorded known listing from left before after
DebugsBy file words disk typed recorded known listing from left before after (Err other) = Unit {0}

-- The program was debugged with its words on the disk with this image, with what is typed before the start, with the bytes that come later and with
-- these labels. The commands are the lines of a reader: before the session it had `from` to give, and after it `left`.
abbrev pub IsDebuggedRun : List ℕ → List (List ℕ) → List ℕ → List ℕ → List Arrival → List (ℕ × List ℕ) → List ℕ → Option (List ℕ) → Option (List ℕ) → Stream → Stream → Result Unit DebugFault → Type 0
IsDebuggedRun file words image input recorded labels listing from left before after result =
    (disk : Mounted Image) × IsMounted image (Ok disk) × DebugsBy file words disk (typed input) recorded (record { labels = labels; size = length file }) listing from left before after result

-- The program was played with its words on the disk with this image, at a keyboard and a screen: why the session ended, after how many steps and
-- with which PC, the image of the disk then, and the bytes that came.
abbrev pub IsPlayedRan : List ℕ → List (List ℕ) → List ℕ → ℕ → Seat → PlayEnd → ℕ → ℕ → List ℕ → List Arrival → Seat → Type 0
IsPlayedRan file words image steps before end turns pc left arrivals after =
    (disk : Mounted Image) × (then : Mounted Image) × IsMounted image (Ok disk)
    × IsPlayed (λ sectors. sectors) (λ sectors. 0) file words disk steps before end turns pc then arrivals after × (left ≡ concat then.device)

-- The same again, with the bytes of a record and its last number of steps.
abbrev pub IsReplayedRan : List ℕ → List (List ℕ) → List ℕ → ℕ → List Arrival → ℕ → Seat → PlayEnd → ℕ → ℕ → List ℕ → List Arrival → Seat → Type 0
IsReplayedRan file words image steps recorded last before end turns pc left arrivals after =
    (disk : Mounted Image) × (then : Mounted Image) × IsMounted image (Ok disk)
    × IsReplayed (λ sectors. sectors) (λ sectors. 0) file words disk steps recorded last before end turns pc then arrivals after × (left ≡ concat then.device)
