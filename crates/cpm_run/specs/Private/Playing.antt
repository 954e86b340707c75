-- A session as the code keeps it.
use Rattle.std.specs.Prelude.{◌≡◌, ◌≢◌, ◌<◌, ◌≤◌, ◌+◌, ◌-◌, ◌++◌, ◌∷◌, ◌⊎◌, ℕ, Bool, true, false, List, [], Option, None, Some, Result, Ok, Err, option_map}
use Rattle.std.specs.Io.KnownBytes.{Consumes, IsAtEnd, Keeps}
use Rattle.z80_cpu.specs.State.{machine}
use Rattle.cpm_disk.specs.Image.{Image}
use Rattle.cpm_run.specs.declared.ending.Why.{Why}
use Rattle.cpm_run.specs.declared.arriving.PlayEnd.{PlayEnd}
use Rattle.cpm_run.specs.declared.arriving.PlayEnd.TheVariants as play
use Rattle.cpm_run.specs.declared.playing.state.Playing.{Playing}
use Rattle.cpm_disk.specs.declared.control.stop.Stop.TheVariants as stop
use Rattle.cpm_run.specs.declared.ending.Why.TheVariants as why
use Rattle.cpm_run.specs.Looks.{Attention, HoldsFew, MayStep, TakesLine, after_step, next_echo, patience_of, waits_after}
use Rattle.cpm_run.specs.Play.{Arrives, Attends, CameBefore, EndsAttended, EndsBy, HasHappened, IsEcho, PlayState, PlaysOn, PlayedRunEnds, RunsTo, arrived, arrival_bytes}
use Rattle.cpm_run.specs.declared.arriving.Arrival.{Arrival}
use Rattle.cpm_console.specs.Seat.{Seat, SeatEvent, looks_in, with_events}
use Rattle.cpm_run.specs.Turns.{is_finished}
use Rattle.cpm_console.specs.declared.station.Patience.{Patience}
use Rattle.cpm_console.specs.declared.station.Patience.TheVariants as how

-- the session, given what was shown
abbrev pub state_of : {S : Type 0} → Playing S → List ℕ → PlayState S
state_of p shown = record { run = record { machine = machine p.cpu p.memory; system = p.bdos }; turns = p.turns; arrivals = p.arrivals.items; shown = shown }

-- what steps did to a session
abbrev pub Went : {S : Type 0} → (S → Image) → (S → ℕ) → Option Why → PlayState S → PlayState S → Type 0
Went sectors faults None start new = PlaysOn sectors faults start new
Went sectors faults (Some end) start new = EndsBy sectors faults start end new

-- The screen has got the bytes that were shown, and those that were shown ahead.
abbrev pub HasShown : Seat → Seat → List ℕ → List ℕ → Type 0
HasShown before after shown ahead = (more : List ℕ) → Keeps (before.screen (shown ++ ahead ++ more)) (after.screen more)

-- All keys that came have arrived. The person has not left by them, and leaves by later keys as before by all of them. If the keyboard has said
-- that no key will come, none is left.
pub record HasHeard (before after : Seat) (arrivals : List Arrival) (ended : Bool) : Type 0 where
  pub coming : Consumes before.coming after.coming (arrival_bytes arrivals)
  pub stays : before.leaves [] ≡ false → before.leaves (arrival_bytes arrivals) ≡ false
  pub leaves : (more : List ℕ) → after.leaves more ≡ before.leaves (arrival_bytes arrivals ++ more)
  pub end : ended ≡ true → IsAtEnd after.coming

-- the person left by the last keys that came, which did not arrive
abbrev pub IsLeftBy : Seat → Seat → List Arrival → Type 0
IsLeftBy before after arrivals = (last : List ℕ) × Consumes before.coming after.coming (arrival_bytes arrivals ++ last) × (before.leaves (arrival_bytes arrivals ++ last) ≡ true)

-- nothing happened to the keyboard
pub record IsUnasked (old new : Seat) : Type 0 where
  pub coming : new.coming ≡ old.coming
  pub leaves : new.leaves ≡ old.leaves
  pub looks : option_map looks_in new.events ≡ option_map looks_in old.events

-- The session so far: the screen has what was shown, and the bytes that were shown ahead.
pub record Stands {S : Type 0} (sectors : S → Image) (faults : S → ℕ) (start : PlayState S) (before : Seat) (p : Playing S) (after : Seat) : Type 0 where
  pub shown : List ℕ
  pub plays : PlaysOn sectors faults start (state_of p shown)
  pub seen : HasShown before after shown p.ahead.items

-- the same, and what arrived came from the keyboard
pub record SoFar {S : Type 0} (sectors : S → Image) (faults : S → ℕ) (start : PlayState S) (before : Seat) (p : Playing S) (after : Seat) : Type 0 where
  pub stands : Stands sectors faults start before p after
  pub heard : HasHeard before after p.arrivals.items p.ended
  pub time : CameBefore (p.turns + 1) p.arrivals.items

-- the session after a last step, or with the limit reached
pub record IsOver {S : Type 0} (sectors : S → Image) (faults : S → ℕ) (limit : ℕ) (start : PlayState S) (end : Why) (before : Seat) (p : Playing S) (after : Seat) : Type 0 where
  pub shown : List ℕ
  pub ends : PlayedRunEnds sectors faults limit start end (state_of p shown)
  pub seen : HasShown before after shown p.ahead.items

-- The next step is still to be made.
pub record IsBetween {S : Type 0} (limit : ℕ) (p : Playing S) : Type 0 where
  pub going : is_finished p.cpu.pc ≡ false
  pub below : p.turns < limit

-- The next step is still to be made, and all is shown that was put.
pub record Waits {S : Type 0} (sectors : S → Image) (faults : S → ℕ) (limit : ℕ) (start : PlayState S) (before : Seat) (p : Playing S) (after : Seat) : Type 0 where
  pub so_far : SoFar sectors faults start before p after
  pub next : IsBetween limit p
  pub all : p.bdos.terminal.console.output ≡ Some []

-- the session that the person left
pub record IsLeft {S : Type 0} (sectors : S → Image) (faults : S → ℕ) (limit : ℕ) (start : PlayState S) (before : Seat) (p : Playing S) (after : Seat) : Type 0 where
  pub shown : List ℕ
  pub plays : PlaysOn sectors faults start (state_of p shown)
  pub next : IsBetween limit p
  pub all : p.bdos.terminal.console.output ≡ Some []
  pub seen : HasShown before after shown p.ahead.items
  pub echo : IsEcho (state_of p shown).run p.ahead.items
  pub arrives : Arrives before p.arrivals.items
  pub left : IsLeftBy before after p.arrivals.items

-- the session in which memory ran out
pub record IsShort {S : Type 0} (sectors : S → Image) (faults : S → ℕ) (limit : ℕ) (start : PlayState S) (before : Seat) (p : Playing S) (after : Seat) : Type 0 where
  pub shown : List ℕ
  pub plays : PlaysOn sectors faults start (state_of p shown)
  pub next : IsBetween limit p
  pub all : p.bdos.terminal.console.output ≡ Some []
  pub seen : HasShown before after shown p.ahead.items
  pub arrives : Arrives before p.arrivals.items

-- the session in which the keyboard or the screen failed
pub record IsBroken {S : Type 0} (sectors : S → Image) (faults : S → ℕ) (start : PlayState S) (p : Playing S) : Type 0 where
  pub shown : List ℕ
  pub plays : PlaysOn sectors faults start (state_of p shown)

-- the session after a call that ended it
abbrev pub Ends : {S : Type 0} → (S → Image) → (S → ℕ) → ℕ → PlayEnd → PlayState S → Seat → Playing S → Seat → Type 0
Ends sectors faults limit (play.Run end) start before p after = IsOver sectors faults limit start end before p after × HasHeard before after p.arrivals.items p.ended × CameBefore p.turns p.arrivals.items
Ends sectors faults limit play.Failed start before p after = IsBroken sectors faults start p × Arrives before p.arrivals.items
Ends sectors faults limit play.Left start before p after = IsLeft sectors faults limit start before p after
Ends sectors faults limit play.NoMemory start before p after = IsShort sectors faults limit start before p after

-- the session after a call that may end it
abbrev pub Continues : {A : Type 0} {S : Type 0} → (S → Image) → (S → ℕ) → ℕ → Result A PlayEnd → PlayState S → Seat → Playing S → Seat → Type 0
Continues sectors faults limit (Ok done) start before p after = SoFar sectors faults start before p after
Continues sectors faults limit (Err end) start before p after = Ends sectors faults limit end start before p after

-- the session between two steps, before the keyboard is asked
abbrev pub Begins : {S : Type 0} → (S → Image) → (S → ℕ) → PlayState S → Seat → Playing S → Seat → Type 0
Begins sectors faults start before p after = SoFar sectors faults start before p after × CameBefore p.turns p.arrivals.items

-- the session after steps that may end it
abbrev pub GoesRound : {A : Type 0} {S : Type 0} → (S → Image) → (S → ℕ) → ℕ → Result A PlayEnd → PlayState S → Seat → Playing S → Seat → Type 0
GoesRound sectors faults limit (Ok done) start before p after = Begins sectors faults start before p after
GoesRound sectors faults limit (Err end) start before p after = Ends sectors faults limit end start before p after

-- the session after all was shown
abbrev pub AfterShowing : {A E : Type 0} {S : Type 0} → (S → Image) → (S → ℕ) → Result A E → PlayState S → Seat → Playing S → Seat → Type 0
AfterShowing sectors faults (Ok done) start before p after = Stands sectors faults start before p after
AfterShowing sectors faults (Err e) start before p after = IsBroken sectors faults start p

-- the same, and the next step is still to be made
abbrev pub WaitsOn : {A : Type 0} {S : Type 0} → (S → Image) → (S → ℕ) → ℕ → Result A PlayEnd → PlayState S → Seat → Playing S → Seat → Type 0
WaitsOn sectors faults limit (Ok done) start before p after = Waits sectors faults limit start before p after
WaitsOn sectors faults limit (Err end) start before p after = Ends sectors faults limit end start before p after

-- the bytes that arrived, and these, unless memory ran out for them
abbrev pub taken : {E : Type 0} → ℕ → List ℕ → Result Unit E → List Arrival → List Arrival
taken turns bytes (Ok done) arrivals = arrivals ++ arrived turns bytes
taken turns bytes (Err e) arrivals = arrivals

-- what a call leaves as it was that makes no step
pub record IsStill {S : Type 0} (old new : Playing S) : Type 0 where
  pub cpu : new.cpu ≡ old.cpu
  pub turns : new.turns ≡ old.turns
  pub looked : new.looked ≡ old.looked

-- A call that makes no step. It may look at the keyboard.
pub record MakesNoStep {S : Type 0} (old new : Playing S) : Type 0 where
  pub cpu : new.cpu ≡ old.cpu
  pub turns : new.turns ≡ old.turns
  pub looked : old.looked ≤ old.turns → (old.looked ≤ new.looked) × (new.looked ≤ new.turns)

-- what showing leaves as it was
pub record OnlyShows {S : Type 0} (old new : Playing S) : Type 0 where
  pub cpu : new.cpu ≡ old.cpu
  pub turns : new.turns ≡ old.turns
  pub looked : new.looked ≡ old.looked
  pub ended : new.ended ≡ old.ended
  pub memory : new.memory ≡ old.memory
  pub disk : new.bdos.disk ≡ old.bdos.disk
  pub arrivals : new.arrivals.items ≡ old.arrivals.items

-- ---- what is shown ahead of the program

-- What is shown ahead of the program before a step: nothing; or, if the step takes a line and all that was put is shown, the echo of the line.
abbrev pub IsAhead : {S : Type 0} → Playing S → Type 0
IsAhead p = (p.ahead.items ≡ []) ⊎ (TakesLine p.cpu × (p.bdos.terminal.console.output ≡ Some []) × (p.ahead.items ≡ next_echo (state_of p []).run))

-- After a step: nothing; or just what the step put, unless memory ran out for that.
abbrev pub IsPut : {S : Type 0} → Option Why → Playing S → Type 0
IsPut end p = (p.ahead.items ≡ []) ⊎ (end ≢ Some (why.Stopped stop.ConsoleFault) → p.bdos.terminal.console.output ≡ Some p.ahead.items)

-- What is shown ahead begins the echo of the line.
abbrev pub BeginsEcho : {S : Type 0} → Playing S → Type 0
BeginsEcho p = (more : List ℕ) × (next_echo (state_of p []).run ≡ p.ahead.items ++ more)

-- The echo of the line is the same, or longer.
abbrev pub EchoGrows : {S : Type 0} → Playing S → Playing S → Type 0
EchoGrows old new = (more : List ℕ) × (next_echo (state_of new []).run ≡ next_echo (state_of old []).run ++ more)

-- ---- what happens at the keyboard and the screen

-- What the program has put is shown without what was shown ahead of it; or the screen did not take it all; or it is not shown, since it does not
-- begin with that.
abbrev pub ShowsRest : {A E : Type 0} {S : Type 0} → Result A E → Playing S → Seat → Seat → Type 0
ShowsRest (Ok done) p mid after = (rest : List ℕ) × (p.bdos.terminal.console.output ≡ Some (p.ahead.items ++ rest)) × (after.events ≡ with_events (SeatEvent.showed rest ∷ []) mid.events)
ShowsRest (Err e) p mid after =
    ((rest : List ℕ) × (p.bdos.terminal.console.output ≡ Some (p.ahead.items ++ rest)) × (after.events ≡ with_events (SeatEvent.not_showed rest ∷ []) mid.events))
    ⊎ ((put : List ℕ) × (p.bdos.terminal.console.output ≡ Some put) × ((rest : List ℕ) → put ≢ p.ahead.items ++ rest) × (after.events ≡ mid.events))

-- The session so far has seen this.
pub record Watched {S : Type 0} (sectors : S → Image) (faults : S → ℕ) (start : PlayState S) (before : Seat) (p : Playing S) (after : Seat) (a : Attention) : Type 0 where
  pub shown : List ℕ
  pub attends : Attends sectors faults start (state_of p shown) a
  pub events : after.events ≡ with_events a.events before.events
  pub ahead : a.ahead ≡ p.ahead.items
  pub last : a.last ≡ p.looked
  pub past : p.looked ≤ p.turns
  pub allowance : p.allowance ≡ 1048576 - a.bulk
  pub ended : a.ended ≡ p.ended

-- The run has ended, and the rest of what it put is still to be shown.
pub record IsDone {S : Type 0} (sectors : S → Image) (faults : S → ℕ) (start : PlayState S) (end : Why) (before : Seat) (p : Playing S) (after : Seat) : Type 0 where
  pub so_far : Attention
  pub runs : RunsTo sectors faults start end (state_of p []) so_far
  pub put : IsPut (Some end) p
  pub events : after.events ≡ with_events so_far.events before.events
  pub ahead : so_far.ahead ≡ p.ahead.items
  pub ended : so_far.ended ≡ p.ended

-- the session that has ended so, with all that happened
abbrev pub HasEnded : {S : Type 0} → (S → Image) → (S → ℕ) → PlayEnd → PlayState S → Seat → Playing S → Seat → Type 0
HasEnded sectors faults end start before p after = (events : List SeatEvent) × (after.events ≡ with_events events before.events) × HasHappened sectors faults end start (state_of p []) events

-- the session after a call that ended it
abbrev pub HasStopped : {S : Type 0} → (S → Image) → (S → ℕ) → PlayEnd → PlayState S → Seat → Playing S → Seat → Type 0
HasStopped sectors faults (play.Run end) start before p after = IsDone sectors faults start end before p after
HasStopped sectors faults play.Left start before p after = HasEnded sectors faults play.Left start before p after
HasStopped sectors faults play.Failed start before p after = HasEnded sectors faults play.Failed start before p after
HasStopped sectors faults play.NoMemory start before p after = HasEnded sectors faults play.NoMemory start before p after

-- what steps did to a session
abbrev pub StepsTo : {S : Type 0} → (S → Image) → (S → ℕ) → Option Why → PlayState S → PlayState S → Attention → Type 0
StepsTo sectors faults None start new a = Attends sectors faults start new (after_step a)
StepsTo sectors faults (Some end) start new a = EndsAttended sectors faults start end new a

-- the session after a call that asks nobody and makes no step, but may show something
abbrev pub WatchedOn : {A : Type 0} {S : Type 0} → (S → Image) → (S → ℕ) → Result A PlayEnd → PlayState S → Seat → Playing S → Seat → Attention → Type 0
WatchedOn sectors faults (Ok done) start before p after a = (b : Attention) × Watched sectors faults start before p after b × (b.here ≡ a.here) × ((n : ℕ) → waits_after n a.events ≤ waits_after n b.events)
WatchedOn sectors faults (Err end) start before p after a = HasStopped sectors faults end start before p after

-- the same if only the screen can have ended it
abbrev pub ShownOn : {A E : Type 0} {S : Type 0} → (S → Image) → (S → ℕ) → Result A E → PlayState S → Seat → Playing S → Seat → Attention → Type 0
ShownOn sectors faults (Ok done) start before p after a = (b : Attention) × Watched sectors faults start before p after b × (b.here ≡ a.here) × ((n : ℕ) → waits_after n a.events ≤ waits_after n b.events)
ShownOn sectors faults (Err e) start before p after a = HasEnded sectors faults play.Failed start before p after

-- how many looks that wait a look in this way is
abbrev pub waited : Patience → ℕ
waited how.Wait = 1
waited how.Poll = 0
waited how.Glance = 0

-- the session after a look that may have ended it
abbrev pub AfterLook : {A : Type 0} {S : Type 0} → (S → Image) → (S → ℕ) → Patience → Result A PlayEnd → PlayState S → Seat → Playing S → Seat → Attention → Type 0
AfterLook sectors faults patience (Ok done) start before p after a =
    (b : Attention) × Watched sectors faults start before p after b × (b.here ≡ true) × (waits_after p.turns a.events + waited patience ≤ waits_after p.turns b.events)
AfterLook sectors faults patience (Err end) start before p after a = HasStopped sectors faults end start before p after

-- The session has looked at the keyboard lately, and has not shown much since; and if the next step takes what has come, then since the last step, and all is shown.
pub record IsLooking {S : Type 0} (sectors : S → Image) (faults : S → ℕ) (start : PlayState S) (before : Seat) (p : Playing S) (after : Seat) : Type 0 where
  pub so_far : Attention
  pub watched : Watched sectors faults start before p after so_far
  pub polled : patience_of p.cpu ≡ how.Poll → so_far.here ≡ true
  pub shown : patience_of p.cpu ≡ how.Poll → p.bdos.terminal.console.output ≡ Some []
  pub lately : p.turns < p.looked + 2000000
  pub calm : so_far.bulk < 1048576
  pub held : HoldsFew (state_of p []).run
  pub none : p.ahead.items ≡ []

abbrev pub LooksOn : {A : Type 0} {S : Type 0} → (S → Image) → (S → ℕ) → Result A PlayEnd → PlayState S → Seat → Playing S → Seat → Type 0
LooksOn sectors faults (Ok done) start before p after = IsLooking sectors faults start before p after
LooksOn sectors faults (Err end) start before p after = HasStopped sectors faults end start before p after

-- The next step may be made.
pub record IsAttended {S : Type 0} (sectors : S → Image) (faults : S → ℕ) (start : PlayState S) (before : Seat) (p : Playing S) (after : Seat) : Type 0 where
  pub so_far : Attention
  pub watched : Watched sectors faults start before p after so_far
  pub lately : p.turns < p.looked + 2000000
  pub may : MayStep (state_of p []).run p.turns so_far
  pub ahead : IsAhead p

-- the session before a step, unless it has ended
abbrev pub Attended : {A : Type 0} {S : Type 0} → (S → Image) → (S → ℕ) → Result A PlayEnd → PlayState S → Seat → Playing S → Seat → Type 0
Attended sectors faults (Ok done) start before p after = IsAttended sectors faults start before p after
Attended sectors faults (Err end) start before p after = HasStopped sectors faults end start before p after

-- The session between two steps. It has not looked since the last one, and not much is held.
pub record Rests {S : Type 0} (sectors : S → Image) (faults : S → ℕ) (start : PlayState S) (before : Seat) (p : Playing S) (after : Seat) : Type 0 where
  pub so_far : Attention
  pub watched : Watched sectors faults start before p after so_far
  pub here : so_far.here ≡ false
  pub lately : p.turns ≤ p.looked + 2000000
  pub held : HoldsFew (state_of p []).run
  pub none : p.ahead.items ≡ []

abbrev pub RestsOn : {A : Type 0} {S : Type 0} → (S → Image) → (S → ℕ) → Result A PlayEnd → PlayState S → Seat → Playing S → Seat → Type 0
RestsOn sectors faults (Ok done) start before p after = Rests sectors faults start before p after
RestsOn sectors faults (Err end) start before p after = HasStopped sectors faults end start before p after

-- ---- played again

-- The session when it is played again, after a call that may end it: with the run, or since the screen failed.
abbrev pub Repeats : {A : Type 0} {S : Type 0} → (S → Image) → (S → ℕ) → ℕ → Result A PlayEnd → PlayState S → Seat → Playing S → Seat → Type 0
Repeats sectors faults limit (Ok done) start before p after = Stands sectors faults start before p after
Repeats sectors faults limit (Err (play.Run end)) start before p after = IsOver sectors faults limit start end before p after
Repeats sectors faults limit (Err play.Failed) start before p after = IsBroken sectors faults start p
Repeats sectors faults limit (Err other) start before p after = ⊥

-- what it has come to when it ended
abbrev pub RepeatsTo : {S : Type 0} → (S → Image) → (S → ℕ) → ℕ → ℕ → PlayEnd → PlayState S → Seat → Playing S → Seat → Type 0
RepeatsTo sectors faults limit last (play.Run end) start before p after = IsOver sectors faults limit start end before p after
RepeatsTo sectors faults limit last play.Left start before p after = Stands sectors faults start before p after × IsBetween limit p × (last ≤ p.turns)
RepeatsTo sectors faults limit last play.NoMemory start before p after = Stands sectors faults start before p after
RepeatsTo sectors faults limit last play.Failed start before p after = IsBroken sectors faults start p

-- Nothing is shown ahead of the program, and it is known what happened.
pub record IsQuiet {S : Type 0} (before : Seat) (p : Playing S) (after : Seat) : Type 0 where
  pub none : p.ahead.items ≡ []
  pub events : List SeatEvent
  pub told : after.events ≡ with_events events before.events

-- The screen did not take these bytes, which were all that was to be shown.
abbrev pub IsRefused : Seat → Seat → Type 0
IsRefused mid after = (bytes : List ℕ) × (after.events ≡ with_events (SeatEvent.not_showed bytes ∷ []) mid.events)

-- That the screen did not take all bytes is the last that happened.
abbrev pub WasRefused : Seat → Seat → Type 0
WasRefused before after = (events : List SeatEvent) × (bytes : List ℕ) × (after.events ≡ with_events (events ++ SeatEvent.not_showed bytes ∷ []) before.events)

-- what is known after something may have been shown
abbrev pub IsTold : {A E : Type 0} {S : Type 0} → Result A E → Seat → Playing S → Seat → Type 0
IsTold (Ok done) before p after = IsQuiet before p after
IsTold (Err e) before p after = WasRefused before after

-- what is known at the end of a session that is played again
abbrev pub EndsTold : {S : Type 0} → PlayEnd → Seat → Playing S → Seat → Type 0
EndsTold play.Failed before p after = WasRefused before after
EndsTold (play.Run why) before p after = IsQuiet before p after
EndsTold play.Left before p after = IsQuiet before p after
EndsTold play.NoMemory before p after = IsQuiet before p after

abbrev pub ToldOn : {A : Type 0} {S : Type 0} → Result A PlayEnd → Seat → Playing S → Seat → Type 0
ToldOn (Ok done) before p after = IsQuiet before p after
ToldOn (Err end) before p after = EndsTold end before p after

-- The target is reached, and the next step is still to be made; or steps were made towards it.
abbrev pub HasReached : {S : Type 0} → ℕ → ℕ → Bool → Playing S → Playing S → Type 0
HasReached target limit true old new = IsBetween limit new × (target ≤ new.turns)
HasReached target limit false old new = old.turns < new.turns
