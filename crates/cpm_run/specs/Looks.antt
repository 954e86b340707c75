-- When a session looks at the keyboard, and when it shows what was put.
use Rattle.std.specs.Prelude.{◌≡◌, ◌≢◌, ◌<◌, ◌≤◌, ◌+◌, ◌++◌, ◌∷◌, ◌⊎◌, ◌==◌, ℕ, Bool, true, false, IfSome, List, [], Option, Some, Result, Ok, Err, if◌then◌else◌, length}
use Rattle.z80_cpu.specs.State.{de}
use Rattle.z80_cpu.specs.declared.registers.Cpu.{Cpu}
use Rattle.cpm_console.specs.Dialog.{Dialog, put_by}
use Rattle.cpm_console.specs.Line.{NoInput, typed_line}
use Rattle.cpm_console.specs.Screen.{screen}
use Rattle.cpm_disk.specs.Control.Bytes.{memory_byte}
use Rattle.cpm_disk.specs.declared.control.stop.Stop.TheVariants as stop
use Rattle.cpm_bdos.specs.Console.Texts.{taken_talk}
use Rattle.cpm_bdos.specs.Functions.{bios_entry_of, function_of}
use Rattle.cpm_bdos.specs.declared.function.BiosEntry.{BiosEntry}
use Rattle.cpm_bdos.specs.declared.function.BiosEntry.TheVariants as bios
use Rattle.cpm_bdos.specs.declared.function.ConsoleCall.TheVariants as console
use Rattle.cpm_bdos.specs.declared.function.Function.{Function}
use Rattle.cpm_bdos.specs.declared.function.Function.TheVariants as function
use Rattle.cpm_console.specs.Seat.{SeatEvent}
use Rattle.cpm_run.specs.Turns.{Call, Entry, Place, Program, RunState, bdos, place_at_pc}
use Rattle.cpm_console.specs.declared.station.Came.{Came}
use Rattle.cpm_console.specs.declared.station.Came.TheVariants as came
use Rattle.cpm_console.specs.declared.station.Patience.{Patience}
use Rattle.cpm_console.specs.declared.station.Patience.TheVariants as how
use Rattle.cpm_console.specs.declared.station.StationFault.{StationFault}

-- How the keyboard is asked before a call with this byte in E. Functions 1 and 10 wait for what they take. Function 11, and function 6 with 255 in
-- E, take what has come. Any other call takes nothing.
abbrev pub call_patience : Option Function → ℕ → Patience
call_patience (Some (function.Console console.Input)) e = how.Wait
call_patience (Some (function.Console console.ReadLine)) e = how.Wait
call_patience (Some (function.Console console.Status)) e = how.Poll
call_patience (Some (function.Console console.Direct)) e = if e == 255 then how.Poll else how.Glance
call_patience _ e = how.Glance

abbrev pub entry_patience : Option BiosEntry → Patience
entry_patience (Some bios.ConsoleInput) = how.Wait
entry_patience (Some bios.ConsoleStatus) = how.Poll
entry_patience _ = how.Glance

abbrev pub patience_at : Place → Cpu → Patience
patience_at Call cpu = call_patience (function_of cpu.main.c) cpu.main.e
patience_at (Entry n) cpu = entry_patience (bios_entry_of n)
patience_at Program cpu = how.Glance

-- how the keyboard is asked before the next step
abbrev pub patience_of : Cpu → Patience
patience_of cpu = patience_at (place_at_pc cpu.pc) cpu

-- how many bytes the line may have that function 10 takes: the byte at DE
abbrev pub line_room : {S C : Type 0} → RunState S C → ℕ
line_room r = memory_byte (de r.machine.cpu.main) r.machine.memory

-- The next step is a call of function 10, which takes a line.
abbrev pub TakesLine : Cpu → Type 0
TakesLine cpu = (cpu.pc ≡ bdos) × (function_of cpu.main.c ≡ Some (function.Console console.ReadLine))

-- The next step would stop for want of input: function 1 or entry 3 of the BIOS without a byte, or function 10 without the end of a line.
abbrev pub CallLacks : {S : Type 0} → Option Function → RunState S Dialog → Type 0
CallLacks (Some (function.Console console.Input)) r = (taken_talk (screen (λ d. d) r.system.terminal)).ending ≡ Err stop.EndOfInput
CallLacks (Some (function.Console console.ReadLine)) r = (typed_line (line_room r) (screen (λ d. d) r.system.terminal)).ending ≡ NoInput
CallLacks _ r = ⊥

abbrev pub EntryLacks : {S : Type 0} → Option BiosEntry → RunState S Dialog → Type 0
EntryLacks (Some bios.ConsoleInput) r = r.system.terminal.console.input ≡ []
EntryLacks _ r = ⊥

abbrev pub LacksAt : {S : Type 0} → Place → RunState S Dialog → Type 0
LacksAt Call r = CallLacks (function_of r.machine.cpu.main.c) r
LacksAt (Entry n) r = EntryLacks (bios_entry_of n) r
LacksAt Program r = ⊥

abbrev pub LacksInput : {S : Type 0} → RunState S Dialog → Type 0
LacksInput r = LacksAt (place_at_pc r.machine.cpu.pc) r

-- The echo of a line that is being typed: what function 10 would put for the bytes that are there. The session shows it before the function puts it.
-- Before any other step there is none.
abbrev pub call_echo : {S : Type 0} → Option Function → RunState S Dialog → List ℕ
call_echo (Some (function.Console console.ReadLine)) r = put_by (typed_line (line_room r) (screen (λ d. d) r.system.terminal)).events
call_echo _ r = []

abbrev pub echo_at : {S : Type 0} → Place → RunState S Dialog → List ℕ
echo_at Call r = call_echo (function_of r.machine.cpu.main.c) r
echo_at _ r = []

abbrev pub next_echo : {S : Type 0} → RunState S Dialog → List ℕ
next_echo r = echo_at (place_at_pc r.machine.cpu.pc) r

-- Before a call that takes a line, the bytes of an echo may be due: a key has come that the call reads, or the line has no room, so that its end is put
-- at once. If neither is so, there is no echo.
abbrev pub MayHaveEcho : {S : Type 0} → RunState S Dialog → Type 0
MayHaveEcho r = (0 < length r.system.terminal.console.input) ⊎ (line_room r ≡ 0)

-- What a session has seen so far: what happened at the keyboard and the screen; the echo that is already shown, though the program has not put it yet;
-- the number of steps before the last look at the keyboard; the number of bytes shown since that look; whether the session has looked since the last
-- step; and whether the last look said that no key will ever come.
pub record Attention : Type 0 where
  pub events : List SeatEvent
  pub ahead : List ℕ
  pub last : ℕ
  pub bulk : ℕ
  pub here : Bool
  pub ended : Bool

abbrev pub unlooked : Attention
unlooked = record { events = []; ahead = []; last = 0; bulk = 0; here = false; ended = false }

-- When a look is due. A session waits only if the next step would stop for want of input and a key may still come. It polls once before each step
-- that takes what has come. Before any other step it may glance, but only if the last look was 2,000,000 steps ago or more, or if 1,048,576 bytes or
-- more were shown since.
abbrev pub IsLookDue : {S : Type 0} → Patience → RunState S Dialog → ℕ → Attention → Type 0
IsLookDue how.Wait r turns a = LacksInput r × (a.ended ≡ false)
IsLookDue how.Poll r turns a = (patience_of r.machine.cpu ≡ how.Poll) × (a.here ≡ false)
IsLookDue how.Glance r turns a = (patience_of r.machine.cpu ≢ how.Poll) × ((a.last + 2000000 ≤ turns) ⊎ (1048576 ≤ a.bulk))

-- The echo that is shown before a look. Only a look that waits for a line has one.
abbrev pub echo_before : {S : Type 0} → Patience → RunState S Dialog → List ℕ
echo_before how.Wait r = next_echo r
echo_before _ r = []

-- how many of these looks were made after this number of steps, and waited
abbrev pub waits_after : ℕ → List SeatEvent → ℕ
waits_after turns [] = 0
waits_after turns (SeatEvent.asked n how.Wait answer ∷ more) = (if n == turns then 1 else 0) + waits_after turns more
waits_after turns (_ ∷ more) = waits_after turns more

-- When the keyboard may be asked in this way: the look is due, all that the program has put is shown, and so is the echo of the line.
pub record MayLook {S : Type 0} (patience : Patience) (r : RunState S Dialog) (turns : ℕ) (a : Attention) : Type 0 where
  pub due : IsLookDue patience r turns a
  pub all : r.system.terminal.console.output ≡ Some []
  pub echo : a.ahead ≡ echo_before patience r

-- Fewer than 4,096 bytes were put and are not shown yet, if it is known what was put.
abbrev pub HoldsFew : {S : Type 0} → RunState S Dialog → Type 0
HoldsFew r = IfSome r.system.terminal.console.output (λ bytes. length bytes < 4096)

-- When the next step may be made. It has the input that it takes, unless no key will come. If it takes what has come, the keyboard was looked at
-- since the last step. If it takes input of any kind, all that the program has put is shown. The last look was at most 4,000,000 steps ago. Few bytes
-- are held back. If the step is a call that does not wait for input, fewer than 1,048,576 bytes were shown since the last look. One such call may put
-- 65,536 bytes, which are 524,288 once tabs are expanded, so a limit on steps alone would let a person who wants to leave wait for gigabytes.
pub record MayStep {S : Type 0} (r : RunState S Dialog) (turns : ℕ) (a : Attention) : Type 0 where
  pub fed : LacksInput r → a.ended ≡ true
  pub polled : patience_of r.machine.cpu ≡ how.Poll → a.here ≡ true
  pub shown : patience_of r.machine.cpu ≢ how.Glance → r.system.terminal.console.output ≡ Some []
  pub soon : turns ≤ a.last + 4000000
  pub calm : patience_of r.machine.cpu ≢ how.Wait → place_at_pc r.machine.cpu.pc ≢ Program → a.bulk < 1048576
  pub held : HoldsFew r

-- The keyboard answered that no key will ever come.
abbrev pub says_end : Result Came StationFault → Bool
says_end (Ok came.End) = true
says_end _ = false

abbrev pub after_look : ℕ → Patience → Result Came StationFault → Attention → Attention
after_look turns patience answer a = record { events = a.events ++ SeatEvent.asked turns patience answer ∷ []; ahead = a.ahead; last = turns; bulk = 0; here = true; ended = says_end answer }

abbrev pub after_step : Attention → Attention
after_step a = record a { here = false }

-- these bytes are shown, and then this echo is ahead of the program
abbrev pub after_show : List ℕ → List ℕ → Attention → Attention
after_show bytes ahead a = record a { events = a.events ++ SeatEvent.showed bytes ∷ []; ahead = ahead; bulk = a.bulk + length bytes }
