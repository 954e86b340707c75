-- A conversation, and how it ends.
use Rattle.std.specs.Prelude.{◌≡◌, ◌≢◌, ◌∷◌, ◌++◌, ◌⊎◌, ℕ, Bool, false, true, All, List, [], Option, Result, Ok, Err, Some}
use Rattle.std.specs.Io.KnownBytes.{Appends, Consumes, IsAtEnd}
use Rattle.std.specs.List.{flat_map}
use Rattle.z80_cpu.specs.declared.registers.Cpu.{Cpu}
use Rattle.cpm_console.specs.Dialog.{dialog_of}
use Rattle.cpm_disk.specs.Calls.{Mounted}
use Rattle.cpm_disk.specs.Image.{Image}
use Rattle.cpm_run.specs.Start.{IsStart}
use Rattle.cpm_run.specs.declared.arriving.Arrival.{Arrival}
use Rattle.host.specs.Streams.Stream.{Stream, counted}
use Rattle.debugger.specs.declared.conversation.Broken.{Broken}
use Rattle.debugger.specs.declared.conversation.Broken.TheVariants as broken
use Rattle.debugger.specs.declared.debugging.DebugFault.{DebugFault}
use Rattle.debugger.specs.declared.debugging.DebugFault.TheVariants as debug
use Rattle.machine_history.specs.declared.stops.Stops.{Stops}
use Rattle.machine_history.specs.Going.{IsFirstShown}
use Rattle.state_text.specs.Labelled.{Known}
use Rattle.debugger.specs.Session.{Obeys}
use Rattle.machine_history.specs.Walk.{Shown}

-- Printing fails only if the stream fails, which is counted once.
abbrev pub PrintsOrFails : Stream → Stream → Result Unit Broken → Type 0
PrintsOrFails old new (Err broken.Output) = new.failures ≡ counted old.failures
PrintsOrFails old new (Err broken.Input) = ⊥
PrintsOrFails old new result = new.failures ≡ old.failures

-- One read, and the lines that end in it: the output failed, or the input failed, or neither did.
abbrev pub ReadsOn : Stream → Stream → Bool → Result Bool Broken → Type 0
ReadsOn old new failed (Err broken.Output) = (new.failures ≡ counted old.failures) × (failed ≡ false)
ReadsOn old new failed (Err broken.Input) = (new.failures ≡ old.failures) × (failed ≡ true)
ReadsOn old new failed result = (new.failures ≡ old.failures) × (failed ≡ false)

-- The commands were read to their end or to `quit`; or the output failed; or the input failed, or had no end after the most reads; or memory
-- ran out.
abbrev pub Converses : Stream → Stream → Bool → ℕ → Result Unit Broken → Type 0
Converses old new failed reads (Err broken.Output) = (new.failures ≡ counted old.failures) × (failed ≡ false)
Converses old new failed reads (Err broken.Input) = (new.failures ≡ old.failures) × ((failed ≡ true) ⊎ (reads ≡ 4294967296))
Converses old new failed reads result = (new.failures ≡ old.failures) × (failed ≡ false)

-- what a session shows, its breakpoints and watched bytes, and whether it was quit
pub record SessionState : Type 0 where
  pub shown : Shown
  pub stops : Stops
  pub is_over : Bool

-- These lines were obeyed one after the other, none of them after `quit`, and these are their answers.
pub data Talks (known : Known) (listing : List ℕ) : SessionState → List (List ℕ) → List ℕ → SessionState → Type 0 where
  none : (t : SessionState) → Talks known listing t [] [] t
  more : (old mid new : SessionState) (lines : List (List ℕ)) (line said text : List ℕ) → Talks known listing old lines said mid → mid.is_over ≡ false
      → Obeys known listing line mid.shown mid.stops mid.is_over new.shown new.stops new.is_over text → Talks known listing old (lines ++ line ∷ []) (said ++ text) new

-- After some lines a buffer holds nothing back. If there are no lines, it may hold what it held before.
abbrev pub HandsOut : List (List ℕ) → Stream → Stream → Type 0
HandsOut lines before after = after.held ≡ true → (before.held ≡ true) × (lines ≡ [])

-- The lines were obeyed, and the answers were printed. None of their bytes is held back.
abbrev pub TalksOn : Known → List ℕ → List (List ℕ) → SessionState → SessionState → Stream → Stream → Type 0
TalksOn known listing lines old new before after =
    (said : List ℕ) × Talks known listing old lines said new × Appends before.bytes after.bytes said × HandsOut lines before after

-- ---- the lines of what is read

-- the byte that ends a line, LF, is not in it
abbrev pub HasNoEnd : List ℕ → Type 0
HasNoEnd line = All (λ byte. byte ≢ 0x0A) line

-- lines, each with its end
abbrev pub with_ends : List (List ℕ) → List ℕ
with_ends lines = flat_map (λ line. line ++ 0x0A ∷ []) lines

-- Bytes are these lines, each with its end, and then the rest.
abbrev pub BeginsLines : List ℕ → List (List ℕ) → List ℕ → Type 0
BeginsLines bytes lines rest = All HasNoEnd lines × (bytes ≡ with_ends lines ++ rest)

-- The lines that were obeyed are those of the bytes that were read, in their order. If the session was quit, they are the lines up to `quit`. If
-- the input has ended, they are all its lines, and the bytes after its last line end are the last line, even if there are none. `from` is what
-- was to be read, and `left` what is left of it.
abbrev pub ReadsLines : Option (List ℕ) → Option (List ℕ) → List (List ℕ) → Bool → Type 0
ReadsLines from left lines is_over =
    (bytes : List ℕ) × Consumes from left bytes
    × (((rest : List ℕ) × BeginsLines bytes lines rest × (is_over ≡ true))
    ⊎ ((before : List (List ℕ)) × (last : List ℕ) × BeginsLines bytes before last × HasNoEnd last × (lines ≡ before ++ last ∷ []) × IsAtEnd left))

-- The lines of an input were obeyed, and their answers were printed.
abbrev pub TalksThrough : Known → List ℕ → Option (List ℕ) → Option (List ℕ) → SessionState → SessionState → Stream → Stream → Type 0
TalksThrough known listing from left old new before after = (lines : List (List ℕ)) × ReadsLines from left lines new.is_over × TalksOn known listing lines old new before after

-- The lines that had ended in what was read were obeyed, and their answers were printed. The session was not quit, so nothing was read after
-- `quit`. What is left of the bytes is the beginning of a line.
abbrev pub TalksSoFar : Known → List ℕ → Option (List ℕ) → Option (List ℕ) → SessionState → SessionState → Stream → Stream → Type 0
TalksSoFar known listing from left old new before after =
    (bytes : List ℕ) × (lines : List (List ℕ)) × (rest : List ℕ) × Consumes from left bytes × BeginsLines bytes lines rest × (new.is_over ≡ false) × HasNoEnd rest
    × TalksOn known listing lines old new before after

-- A session of this program with its words, on a disk, with what is typed before it starts and with the bytes of a record, that was led from its
-- beginning and without breakpoints as is said.
abbrev pub IsLedFrom : List ℕ → List (List ℕ) → Mounted Image → List ℕ → List Arrival → (SessionState → SessionState → Type 0) → Type 0
IsLedFrom file words disk input recorded Leads =
    (first : Shown) × (stops : Stops) × (last : SessionState) × IsFirstShown file words disk (dialog_of input (Some []) 0) recorded first
    × (stops.breakpoints.items ≡ []) × (stops.watches.items ≡ []) × Leads (record { shown = first; stops = stops; is_over = false }) last

-- The input failed, or had no end after the most reads. What was read before was answered.
abbrev pub DebugsSoFar : List ℕ → List (List ℕ) → Mounted Image → List ℕ → List Arrival → Known → List ℕ → Option (List ℕ) → Option (List ℕ) → Stream → Stream → Type 0
DebugsSoFar file words disk input recorded known listing from left before after =
    IsLedFrom file words disk input recorded (λ first last. TalksSoFar known listing from left first last before after)

-- A program was debugged with its words, on a disk, with what is typed before it starts and with the bytes of a record, from its beginning and
-- without breakpoints, by the lines of an input; and the answers were printed.
abbrev pub DebugsTo : List ℕ → List (List ℕ) → Mounted Image → List ℕ → List Arrival → Known → List ℕ → Option (List ℕ) → Option (List ℕ) → Stream → Stream → Type 0
DebugsTo file words disk input recorded known listing from left before after =
    IsLedFrom file words disk input recorded (λ first last. TalksThrough known listing from left first last before after)

-- a program can be started with its words
abbrev pub Starts : List ℕ → List (List ℕ) → Type 0
Starts file words = (cpu : Cpu) × (memory : List ℕ) × IsStart file words (Ok (cpu, memory))

-- A program that cannot be started is not debugged, and nothing is read or printed.
abbrev pub Debugs : List ℕ → List (List ℕ) → Stream → Stream → Bool → ℕ → Result Unit DebugFault → Type 0
Debugs file words old new failed reads (Err (debug.Start fault)) = IsStart file words (Err fault) × (new ≡ old) × (failed ≡ false) × (reads ≡ 0)
Debugs file words old new failed reads (Err (debug.Broken broken)) = Starts file words × Converses old new failed reads (Err broken)
Debugs file words old new failed reads (Ok done) = Starts file words × Converses old new failed reads (Ok done)
