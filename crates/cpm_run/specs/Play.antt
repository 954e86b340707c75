-- A session at a keyboard: a run to which bytes come between its steps.
use Rattle.std.specs.Prelude.{◌≡◌, ◌≢◌, ◌<◌, ◌≤◌, ◌+◌, ◌++◌, ◌∷◌, ◌⊎◌, ℕ, true, false, IfSome, List, [], None, Some, Result, Ok, Err, length, map, max, min, option_map, slice_get, take}
use Rattle.std.specs.Io.{StartsWith}
use Rattle.std.specs.Io.KnownBytes.{Consumes, IsAtEnd, Keeps}
use Rattle.z80_cpu.specs.State.{machine}
use Rattle.z80_cpu.specs.declared.registers.Cpu.{Cpu}
use Rattle.cpm_console.specs.Dialog.{Dialog, output_cleared, dialog_of, typed_in}
use Rattle.cpm_disk.specs.Calls.{Mounted}
use Rattle.cpm_disk.specs.Image.{Image}
use Rattle.cpm_disk.specs.declared.control.stop.Stop.TheVariants as stop
use Rattle.cpm_bdos.specs.System.{new_system, with_console}
use Rattle.cpm_run.specs.declared.ending.Why.{Why}
use Rattle.cpm_run.specs.declared.ending.Why.TheVariants as why
use Rattle.cpm_run.specs.declared.fault.StartFault.{StartFault}
use Rattle.cpm_run.specs.declared.arriving.Arrival.{Arrival}
use Rattle.cpm_run.specs.declared.arriving.PlayEnd.{PlayEnd}
use Rattle.cpm_run.specs.declared.arriving.PlayEnd.TheVariants as play
use Rattle.cpm_console.specs.declared.station.Came.{Came}
use Rattle.cpm_console.specs.declared.station.Came.TheVariants as said
use Rattle.cpm_console.specs.declared.station.Patience.{Patience}
use Rattle.cpm_console.specs.declared.station.StationFault.{StationFault}
use Rattle.cpm_run.specs.Looks.{Attention, MayHaveEcho, MayLook, MayStep, TakesLine, after_look, after_show, after_step, next_echo, unlooked, waits_after}
use Rattle.cpm_run.specs.Run.{unstarted}
use Rattle.cpm_console.specs.Seat.{Seat, SeatEvent, looks_in, with_events}
use Rattle.cpm_run.specs.Start.{IsStart}
use Rattle.cpm_run.specs.Turns.{Goes, IsTurn, RunState, is_finished}

-- A session so far: the state of the run, on a console in memory; the number of steps; each byte that came, with the number of steps before
-- it; and what was shown.
pub record PlayState (S : Type 0) : Type 0 where
  pub run : RunState S Dialog
  pub turns : ℕ
  pub arrivals : List Arrival
  pub shown : List ℕ

-- the run with another console
abbrev pub on_console : {S : Type 0} → Dialog → RunState S Dialog → RunState S Dialog
on_console console r = record r { system = with_console console r.system }

-- bytes that came after this number of steps
abbrev pub arrived : ℕ → List ℕ → List Arrival
arrived turns bytes = map (λ byte. record { turn = turns; byte = byte }) bytes

-- How a session continues: the run makes steps, and none ends it; bytes arrive, and the program can take them from then on; or what the program
-- has put is shown.
pub data PlaysOn {S : Type 0} (sectors : S → Image) (faults : S → ℕ) : PlayState S → PlayState S → Type 0 where
  same : (s : PlayState S) → PlaysOn sectors faults s s
  goes : (n : ℕ) (old mid : PlayState S) (run : RunState S Dialog) → PlaysOn sectors faults old mid → Goes sectors faults (λ d. d) n mid.run run
      → PlaysOn sectors faults old (record mid { run = run; turns = mid.turns + n })
  came : (bytes : List ℕ) (old mid : PlayState S) → PlaysOn sectors faults old mid
      → PlaysOn sectors faults old (record mid { run = on_console (typed_in bytes mid.run.system.terminal.console) mid.run; arrivals = mid.arrivals ++ arrived mid.turns bytes })
  shows : (bytes : List ℕ) (old mid : PlayState S) → PlaysOn sectors faults old mid → mid.run.system.terminal.console.output ≡ Some bytes
      → PlaysOn sectors faults old (record mid { run = on_console (output_cleared mid.run.system.terminal.console) mid.run; shown = mid.shown ++ bytes })

-- a last step, which counts too, ends the run
abbrev pub EndsBy : {S : Type 0} → (S → Image) → (S → ℕ) → PlayState S → Why → PlayState S → Type 0
EndsBy {S} sectors faults start end new =
    (last : PlayState S) × PlaysOn sectors faults start last × (is_finished last.run.machine.cpu.pc ≡ false) × IsTurn sectors faults (λ d. d) last.run (Some end) new.run
    × (new.turns ≡ last.turns + 1) × (new.arrivals ≡ last.arrivals) × (new.shown ≡ last.shown)

-- How the run of a session ends: the program has finished, which is tested before the limit; the limit is reached; or by a last step.
abbrev pub PlayedRunEnds : {S : Type 0} → (S → Image) → (S → ℕ) → ℕ → PlayState S → Why → PlayState S → Type 0
PlayedRunEnds sectors faults limit start end new =
    (PlaysOn sectors faults start new × (is_finished new.run.machine.cpu.pc ≡ true) × (end ≡ why.Finished))
    ⊎ ((PlaysOn sectors faults start new × (new.turns ≡ limit) × (is_finished new.run.machine.cpu.pc ≡ false) × (end ≡ why.TurnLimit))
    ⊎ EndsBy sectors faults start end new)

-- The session ended between two steps: the next one was still to be made.
abbrev pub EndsBetween : {S : Type 0} → (S → Image) → (S → ℕ) → ℕ → PlayState S → PlayState S → Type 0
EndsBetween sectors faults limit start new = PlaysOn sectors faults start new × (is_finished new.run.machine.cpu.pc ≡ false) × (new.turns < limit)

-- How a session ends. Either the run ends; or before that the person leaves, or memory runs out; or the session fails, before the end of the run or
-- when the last bytes are to be shown.
abbrev pub PlayEnds : {S : Type 0} → (S → Image) → (S → ℕ) → ℕ → PlayState S → PlayEnd → PlayState S → Type 0
PlayEnds sectors faults limit start (play.Run end) new = PlayedRunEnds sectors faults limit start end new
PlayEnds sectors faults limit start play.Failed new = PlaysOn sectors faults start new ⊎ ((end : Why) × PlayedRunEnds sectors faults limit start end new)
PlayEnds sectors faults limit start _ new = EndsBetween sectors faults limit start new

-- These bytes come with this answer of the keyboard, which is given room for 256. Any other answer ends the session.
abbrev pub CameWith : Result Came StationFault → List ℕ → Type 0
CameWith (Ok (said.Bytes count)) bytes = length bytes ≡ min count 256
CameWith (Ok said.End) bytes = bytes ≡ []
CameWith _ bytes = ⊥

-- How a session continues at a keyboard and a screen, with what happens there. The session looks at the keyboard before a step, and bytes come, or
-- none. Or it makes a step that does not end the run. Or it shows what the program has put, except the echo that is shown already. Or it shows more of
-- that echo.
pub data Attends {S : Type 0} (sectors : S → Image) (faults : S → ℕ) (start : PlayState S) : PlayState S → Attention → Type 0 where
  begins : Attends sectors faults start start unlooked
  a_look : (patience : Patience) (answer : Result Came StationFault) (bytes : List ℕ) (s : PlayState S) (a : Attention) → Attends sectors faults start s a
      → MayLook patience s.run s.turns a → CameWith answer bytes
      → Attends sectors faults start (record s { run = on_console (typed_in bytes s.run.system.terminal.console) s.run; arrivals = s.arrivals ++ arrived s.turns bytes })
      (after_look s.turns patience answer a)
  a_step : (run : RunState S Dialog) (s : PlayState S) (a : Attention) → Attends sectors faults start s a
      → is_finished s.run.machine.cpu.pc ≡ false → MayStep s.run s.turns a → IsTurn sectors faults (λ d. d) s.run None run
      → Attends sectors faults start (record s { run = run; turns = s.turns + 1 }) (after_step a)
  a_show : (rest : List ℕ) (s : PlayState S) (a : Attention) → Attends sectors faults start s a → s.run.system.terminal.console.output ≡ Some (a.ahead ++ rest)
      → Attends sectors faults start (record s { run = on_console (output_cleared s.run.system.terminal.console) s.run; shown = s.shown ++ (a.ahead ++ rest) }) (after_show rest [] a)
  an_echo : (more : List ℕ) (s : PlayState S) (a : Attention) → Attends sectors faults start s a → s.run.system.terminal.console.output ≡ Some [] → next_echo s.run ≡ a.ahead ++ more
      → Attends sectors faults start s (after_show more (a.ahead ++ more) a)

-- The session has come to this state of the run, with these arrivals, and no step has ended the run.
abbrev pub ComesTo : {S : Type 0} → (S → Image) → (S → ℕ) → PlayState S → PlayState S → Attention → Type 0
ComesTo sectors faults start new a = (shown : List ℕ) × Attends sectors faults start (record new { shown = shown }) a

-- A last step ends the run. It was made only when it might be made, as each step before it.
abbrev pub EndsAttended : {S : Type 0} → (S → Image) → (S → ℕ) → PlayState S → Why → PlayState S → Attention → Type 0
EndsAttended {S} sectors faults start end new a =
    (s : PlayState S) × Attends sectors faults start s a × (is_finished s.run.machine.cpu.pc ≡ false) × MayStep s.run s.turns a × IsTurn sectors faults (λ d. d) s.run (Some end) new.run
    × (new.turns ≡ s.turns + 1) × (new.arrivals ≡ s.arrivals)

-- These ends need no last step: the program has finished, or the limit is reached.
abbrev pub NeedsNoStep : Why → Type 0
NeedsNoStep end = (end ≡ why.Finished) ⊎ (end ≡ why.TurnLimit)

-- the session up to the end of the run
abbrev pub RunsTo : {S : Type 0} → (S → Image) → (S → ℕ) → PlayState S → Why → PlayState S → Attention → Type 0
RunsTo sectors faults start end new a = (NeedsNoStep end × ComesTo sectors faults start new a) ⊎ EndsAttended sectors faults start end new a

-- the session so far, or up to the end of the run
abbrev pub HasRun : {S : Type 0} → (S → Image) → (S → ℕ) → PlayState S → PlayState S → Attention → Type 0
HasRun sectors faults start new a = ComesTo sectors faults start new a ⊎ ((end : Why) × EndsAttended sectors faults start end new a)

-- The keyboard is asked once more, and this answer ends the session.
abbrev pub EndsByLook : {S : Type 0} → (S → Image) → (S → ℕ) → PlayState S → PlayState S → Result Came StationFault → List SeatEvent → Type 0
EndsByLook sectors faults start new answer events =
    (a : Attention) × ComesTo sectors faults start new a × ((patience : Patience) × MayLook patience new.run new.turns a × (events ≡ a.events ++ SeatEvent.asked new.turns patience answer ∷ []))

-- The screen did not take all bytes, either of what was put and not shown yet, or of the echo. That ends the session.
abbrev pub EndsByScreen : {S : Type 0} → (S → Image) → (S → ℕ) → PlayState S → PlayState S → List SeatEvent → Type 0
EndsByScreen sectors faults start new events =
    (a : Attention) × HasRun sectors faults start new a
    × ((bytes : List ℕ) × ((new.run.system.terminal.console.output ≡ Some (a.ahead ++ bytes)) ⊎ (next_echo new.run ≡ a.ahead ++ bytes)) × (events ≡ a.events ++ SeatEvent.not_showed bytes ∷ []))

-- The session gives up, though neither the keyboard nor the screen failed. Either it has waited 4,294,967,295 times or more for the input of one step,
-- even if the last of these looks brought it; or memory ran out while function 10 put its echo, so that what was put does not begin with the echo that is shown.
abbrev pub GivesUpSession : {S : Type 0} → (S → Image) → (S → ℕ) → PlayState S → PlayState S → List SeatEvent → Type 0
GivesUpSession sectors faults start new events =
    (a : Attention) × ((ComesTo sectors faults start new a × (4294967295 ≤ waits_after new.turns a.events) × (events ≡ a.events))
    ⊎ (EndsAttended sectors faults start (why.Stopped stop.ConsoleFault) new a × ((rest : List ℕ) → new.run.system.terminal.console.output ≢ Some (a.ahead ++ rest)) × (events ≡ a.events)))

-- What happened at the keyboard and the screen in a session that ended in this way. If the run ended, what was put and not shown yet was shown last. If
-- the person left, that was the answer to the last look. If memory ran out, there was none for the bytes that the last look brought, or for the echo
-- before a call that takes a line, and only if a key was there for the line or the line had no room. If the session failed, the last look failed, or the screen did, or the session gave up.
abbrev pub HasHappened : {S : Type 0} → (S → Image) → (S → ℕ) → PlayEnd → PlayState S → PlayState S → List SeatEvent → Type 0
HasHappened sectors faults (play.Run end) start new events =
    (a : Attention) × RunsTo sectors faults start end new a × ((rest : List ℕ) × (new.run.system.terminal.console.output ≡ Some (a.ahead ++ rest)) × (events ≡ a.events ++ SeatEvent.showed rest ∷ []))
HasHappened sectors faults play.Left start new events = EndsByLook sectors faults start new (Ok said.Leave) events
HasHappened sectors faults play.NoMemory start new events =
    ((a : Attention) × ComesTo sectors faults start new a × TakesLine new.run.machine.cpu × MayHaveEcho new.run × (events ≡ a.events)) ⊎ ((count : ℕ) × (0 < count) × EndsByLook sectors faults start new (Ok (said.Bytes count)) events)
HasHappened sectors faults play.Failed start new events =
    ((fault : StationFault) × EndsByLook sectors faults start new (Err fault) events) ⊎ (EndsByScreen sectors faults start new events ⊎ GivesUpSession sectors faults start new events)

-- the bytes of those that arrived
abbrev pub arrival_bytes : List Arrival → List ℕ
arrival_bytes arrivals = map (λ arrival. arrival.byte) arrivals

-- The bytes that arrived are the first keys that came, in their order. A person who was there at the beginning has not left by them.
pub record Arrives (before : Seat) (arrivals : List Arrival) : Type 0 where
  pub came : IfSome before.coming (λ keys. StartsWith keys (arrival_bytes arrivals))
  pub stays : before.leaves [] ≡ false → before.leaves (arrival_bytes arrivals) ≡ false

-- The screen has got what was shown in the session, and then these bytes.
abbrev pub ShowsAll : {S : Type 0} → Seat → Seat → PlayState S → List ℕ → Type 0
ShowsAll before after new bytes = (more : List ℕ) → Keeps (before.screen (new.shown ++ bytes ++ more)) (after.screen more)

-- What the screen has got at a look besides what the program has put: nothing, or the echo of the line for which the look waits.
abbrev pub IsEcho : {S : Type 0} → RunState S Dialog → List ℕ → Type 0
IsEcho r echo = (echo ≡ []) ⊎ (echo ≡ next_echo r)

-- What is known of the keyboard and the screen after a session, besides the bytes that arrived and the events.
-- If the run ended: all keys that came have arrived, and all that the program put is shown. The run ended for want of input only if no key was left.
-- If the person left: the keys that came say so, and the last of them did not arrive. All that the program put is shown, and then the echo of a line,
-- which may be empty.
-- If memory ran out: all that the program put is shown, and then some bytes. This does not say which bytes.
-- If the session failed: nothing more.
abbrev pub Sees : {S : Type 0} → PlayEnd → Seat → Seat → PlayState S → Type 0
Sees (play.Run end) before after new = Consumes before.coming after.coming (arrival_bytes new.arrivals) × (end ≡ why.Stopped stop.EndOfInput → IsAtEnd after.coming)
    × ((bytes : List ℕ) × (new.run.system.terminal.console.output ≡ Some bytes) × ShowsAll before after new bytes)
Sees play.Left before after new = ((last : List ℕ) × Consumes before.coming after.coming (arrival_bytes new.arrivals ++ last) × (before.leaves (arrival_bytes new.arrivals ++ last) ≡ true))
    × (new.run.system.terminal.console.output ≡ Some []) × ((echo : List ℕ) × IsEcho new.run echo × ShowsAll before after new echo)
Sees play.NoMemory before after new = (new.run.system.terminal.console.output ≡ Some []) × ((echo : List ℕ) × ShowsAll before after new echo)
Sees play.Failed before after new = Unit {0}

-- Each of these bytes came before the last of these steps.
abbrev pub CameBefore : ℕ → List Arrival → Type 0
CameBefore turns arrivals = (k : ℕ) (one : Arrival) → slice_get arrivals k ≡ Some one → one.turn < turns

-- the session at the start of a program
abbrev pub first_state : {S : Type 0} → Cpu → List ℕ → Mounted S → PlayState S
first_state cpu memory disk = record { run = record { machine = machine cpu memory; system = new_system disk (dialog_of [] (Some []) 0) }; turns = 0; arrivals = []; shown = [] }

-- A session with a program and its words, on a disk, of at most `limit` steps: how it ended, after how many steps and with which PC, the disk
-- then, and the bytes that came. None came after the run had ended. If the seat keeps its events, they are those of the session. If the program
-- cannot be started, no step is made, and nothing happens at the seat.
abbrev pub IsPlayed : {S : Type 0} → (S → Image) → (S → ℕ) → List ℕ → List (List ℕ) → Mounted S → ℕ → Seat → PlayEnd → ℕ → ℕ → Mounted S → List Arrival → Seat → Type 0
IsPlayed {S} sectors faults file words disk limit before end turns pc left arrivals after =
    ((cpu : Cpu) × (memory : List ℕ) × (new : PlayState S) × IsStart file words (Ok (cpu, memory)) × PlayEnds sectors faults limit (first_state cpu memory disk) end new
    × (turns ≡ new.turns) × (turns ≤ limit) × (pc ≡ new.run.machine.cpu.pc) × (left ≡ new.run.system.disk) × (arrivals ≡ new.arrivals) × Arrives before arrivals × Sees end before after new × ((reason : Why) → end ≡ play.Run reason → CameBefore turns arrivals)
    × ((events : List SeatEvent) × (after.events ≡ with_events events before.events) × HasHappened sectors faults end (first_state cpu memory disk) new events))
    ⊎ ((no : StartFault) × IsStart file words (Err no) × (end ≡ play.Run (unstarted no)) × (turns ≡ 0) × (pc ≡ 0x0100) × (left ≡ disk) × (arrivals ≡ []) × (after ≡ before))

-- ---- the same session again

-- The numbers of steps of a record do not go down, and none is above the last.
pub record IsInOrder (recorded : List Arrival) (last : ℕ) : Type 0 where
  pub rising : (j k : ℕ) (one later : Arrival) → j ≤ k → slice_get recorded j ≡ Some one → slice_get recorded k ≡ Some later → one.turn ≤ later.turn
  pub within : (k : ℕ) (one : Arrival) → slice_get recorded k ≡ Some one → one.turn ≤ last

-- The bytes of a record as they are due, once this number of steps is made: each after its own number of steps, or at once if more are made already.
-- In a record that is in order, that is its own number.
abbrev pub due_from : ℕ → List Arrival → List Arrival
due_from turns [] = []
due_from turns (one ∷ more) = record { turn = max turns one.turn; byte = one.byte } ∷ due_from (max turns one.turn) more

-- how many steps are made in all, if these bytes come and the record has this last number of steps
abbrev pub last_due : ℕ → List Arrival → ℕ → ℕ
last_due turns [] last = max turns last
last_due turns (one ∷ more) last = last_due (max turns one.turn) more last

-- The first bytes of a record that is in order came, each after its number of steps. The others were due after this number of steps or later.
pub record FollowsRecord (recorded : List Arrival) (last turns : ℕ) (arrivals : List Arrival) : Type 0 where
  pub count : ℕ
  pub front : arrivals ≡ take count recorded
  pub later : (k : ℕ) (other : Arrival) → count ≤ k → slice_get recorded k ≡ Some other → turns ≤ other.turn
  pub within : turns ≤ last

-- The next byte of a record is due after this number of steps.
abbrev pub NextIsDue : List Arrival → ℕ → List Arrival → Type 0
NextIsDue recorded turns arrivals = (next : Arrival) × (slice_get recorded (length arrivals) ≡ Some next) × (next.turn ≤ turns)

-- How a session ends that is played again from a record with this last number of steps. Either the run ends; or these steps are made, for which the
-- answer here is `Left`; or the screen fails, or memory runs out.
abbrev pub ReplayEnds : {S : Type 0} → (S → Image) → (S → ℕ) → ℕ → ℕ → PlayState S → PlayEnd → PlayState S → Type 0
ReplayEnds sectors faults limit last start (play.Run end) new = PlayedRunEnds sectors faults limit start end new
ReplayEnds sectors faults limit last start play.Left new = EndsBetween sectors faults limit start new × (last ≤ new.turns)
ReplayEnds sectors faults limit last start play.Failed new = PlaysOn sectors faults start new ⊎ ((end : Why) × PlayedRunEnds sectors faults limit start end new)
ReplayEnds sectors faults limit last start play.NoMemory new = PlaysOn sectors faults start new

-- The keyboard is not asked. All that the program put is shown, unless the screen failed. If it failed, it did not take all bytes, and nothing
-- happened after that.
pub record IsShownAgain {S : Type 0} (end : PlayEnd) (before after : Seat) (new : PlayState S) : Type 0 where
  pub coming : after.coming ≡ before.coming
  pub leaves : after.leaves ≡ before.leaves
  pub looks : option_map looks_in after.events ≡ option_map looks_in before.events
  pub all : end ≢ play.Failed → (bytes : List ℕ) × (new.run.system.terminal.console.output ≡ Some bytes) × ShowsAll before after new bytes
  pub failed : end ≡ play.Failed → (events : List SeatEvent) × (bytes : List ℕ) × (after.events ≡ with_events (events ++ SeatEvent.not_showed bytes ∷ []) before.events)

-- A program is played again from a record. Memory runs out only for the next byte of the record, once it is due. The bytes came when they
-- were due, and all of them if the session ended as if the person left.
abbrev pub IsReplayed : {S : Type 0} → (S → Image) → (S → ℕ) → List ℕ → List (List ℕ) → Mounted S → ℕ → List Arrival → ℕ → Seat → PlayEnd → ℕ → ℕ → Mounted S → List Arrival → Seat → Type 0
IsReplayed {S} sectors faults file words disk limit recorded last before end turns pc left arrivals after =
    ((cpu : Cpu) × (memory : List ℕ) × (new : PlayState S) × IsStart file words (Ok (cpu, memory)) × ReplayEnds sectors faults limit last (first_state cpu memory disk) end new
    × (turns ≡ new.turns) × (turns ≤ limit) × (pc ≡ new.run.machine.cpu.pc) × (left ≡ new.run.system.disk) × (arrivals ≡ new.arrivals) × IsShownAgain end before after new × (end ≡ play.NoMemory → NextIsDue recorded turns arrivals)
    × FollowsRecord (due_from 0 recorded) (last_due 0 recorded last) turns arrivals × (end ≡ play.Left → arrivals ≡ due_from 0 recorded))
    ⊎ ((no : StartFault) × IsStart file words (Err no) × (end ≡ play.Run (unstarted no)) × (turns ≡ 0) × (pc ≡ 0x0100) × (left ≡ disk) × (arrivals ≡ []) × (after ≡ before))
