-- Which steps wait for input, and what they lack.
use Rattle.std.proofs.Common.{◌≡◌, ◌≢◌, ◌<◌, ◌≤◌, ◌+◌, ◌++◌, ◌∷◌, ◌⊎◌, [], ℕ, zero, suc, Bool, true, false, List, Option, None, Some, Err, inl, inr, length, length-append, refl, sym, ap, subst, arith, ◌∙◌}
use Rattle.std.proofs.lemmas.Bool.{eqb-true}
use Rattle.std.proofs.lemmas.Bool.Decides.{nat_tests}
use Rattle.std.specs.Prelude.{◌==◌, if◌then◌else◌, nat_le}
use Rattle.z80_cpu.specs.declared.registers.Cpu.{Cpu}
use Rattle.cpm_console.specs.Dialog.{Dialog, put_by}
use Rattle.cpm_console.specs.Line.{Ending, NoInput, Stored, WarmBoot, line_ended, line_transcript, transcript, typed_line}
use Rattle.cpm_console.specs.Screen.{screen}
use Rattle.cpm_disk.specs.declared.control.stop.Stop.TheVariants as stop
use Rattle.cpm_bdos.specs.Console.Texts.{taken_from}
use Rattle.cpm_bdos.specs.Functions.{bios_entry_of, function_of}
use Rattle.cpm_bdos.specs.declared.function.BiosEntry.{BiosEntry}
use Rattle.cpm_bdos.specs.declared.function.BiosEntry.TheVariants as bios
use Rattle.cpm_bdos.specs.declared.function.ConsoleCall.TheVariants as console
use Rattle.cpm_bdos.specs.declared.function.Function.{Function}
use Rattle.cpm_bdos.specs.declared.function.Function.TheVariants as function
use Rattle.cpm_run.specs.Looks.{Attention, CallLacks, EntryLacks, HoldsFew, LacksAt, LacksInput, MayHaveEcho, MayStep, TakesLine, call_echo, call_patience, echo_at, entry_patience, line_room, next_echo, patience_at, patience_of}
use Rattle.cpm_run.specs.Turns.{Call, Entry, Place, Program, RunState, bdos, bios_entry, entry_or_program, place_at_pc}
use Rattle.cpm_console.specs.declared.station.Patience.{Patience}
use Rattle.cpm_console.specs.declared.station.Patience.TheVariants as how

-- ---- what lacks input waits

call_waits : {S : Type 0} (f : Option Function) (e : ℕ) (r : RunState S Dialog) → CallLacks f r → call_patience f e ≡ how.Wait
call_waits None e r lacks = absurd lacks
call_waits (Some function.SystemReset) e r lacks = absurd lacks
call_waits (Some (function.Console console.Input)) e r lacks = refl
call_waits (Some (function.Console console.Output)) e r lacks = absurd lacks
call_waits (Some (function.Console console.Direct)) e r lacks = absurd lacks
call_waits (Some (function.Console console.PrintString)) e r lacks = absurd lacks
call_waits (Some (function.Console console.ReadLine)) e r lacks = refl
call_waits (Some (function.Console console.Status)) e r lacks = absurd lacks
call_waits (Some (function.Setting call)) e r lacks = absurd lacks
call_waits (Some (function.Search call)) e r lacks = absurd lacks
call_waits (Some (function.File call)) e r lacks = absurd lacks
call_waits (Some (function.Record call)) e r lacks = absurd lacks

entry_waits : {S : Type 0} (entry : Option BiosEntry) (r : RunState S Dialog) → EntryLacks entry r → entry_patience entry ≡ how.Wait
entry_waits None r lacks = absurd lacks
entry_waits (Some bios.ConsoleStatus) r lacks = absurd lacks
entry_waits (Some bios.ConsoleInput) r lacks = refl
entry_waits (Some bios.ConsoleOutput) r lacks = absurd lacks

waits_at : {S : Type 0} (place : Place) (r : RunState S Dialog) → LacksAt place r → patience_at place r.machine.cpu ≡ how.Wait
waits_at Call r lacks = call_waits (function_of r.machine.cpu.main.c) r.machine.cpu.main.e r lacks
waits_at (Entry n) r lacks = entry_waits (bios_entry_of n) r lacks
waits_at Program r lacks = absurd lacks

pub waits : {S : Type 0} (r : RunState S Dialog) → LacksInput r → patience_of r.machine.cpu ≡ how.Wait
waits r lacks = waits_at (place_at_pc r.machine.cpu.pc) r lacks

-- ---- a line

pub takes_at : (cpu : Cpu) → TakesLine cpu → place_at_pc cpu.pc ≡ Call
takes_at cpu takes = ap place_at_pc takes.0

pub line_waits : (cpu : Cpu) → TakesLine cpu → patience_of cpu ≡ how.Wait
line_waits cpu takes = ap (λ p. patience_at p cpu) (takes_at cpu takes) ∙ ap (λ f. call_patience f cpu.main.e) takes.1

pub line_lacks : {S : Type 0} (r : RunState S Dialog) → TakesLine r.machine.cpu → (typed_line (line_room r) (screen (λ (d : Dialog). d) r.system.terminal)).ending ≡ NoInput → LacksInput r
line_lacks r takes none =
    subst (λ p. LacksAt p r) (sym (takes_at r.machine.cpu takes)) (subst (λ f. CallLacks f r) (sym takes.1) none)

pub line_lacked : {S : Type 0} (r : RunState S Dialog) → TakesLine r.machine.cpu → LacksInput r → (typed_line (line_room r) (screen (λ (d : Dialog). d) r.system.terminal)).ending ≡ NoInput
line_lacked r takes lacks =
    subst (λ f. CallLacks f r) takes.1 (subst (λ p. LacksAt p r) (takes_at r.machine.cpu takes) lacks)

-- a line that is not whole lacks its end
pub not_whole : (ending : Ending) (whole : Bool) → (ending ≢ NoInput → whole ≡ true) → whole ≡ false → ending ≡ NoInput
not_whole NoInput whole part is = refl
not_whole WarmBoot whole part is = absurd (let no : false ≡ true = sym is ∙ part (λ e. cc) in cc)
not_whole (Stored bytes) whole part is = absurd (let no : false ≡ true = sym is ∙ part (λ e. cc) in cc)

-- ---- a byte

none_taken : (column : ℕ) (input : List ℕ) → (taken_from column input).ending ≡ Err stop.EndOfInput → input ≡ []
none_taken column [] is = refl
none_taken column (byte ∷ input) is = absurd cc

call_byte : {S : Type 0} (f : Option Function) (e : ℕ) (r : RunState S Dialog) → call_patience f e ≡ how.Wait → f ≢ Some (function.Console console.ReadLine)
    → (r.system.terminal.console.input ≡ [] → CallLacks f r) × (CallLacks f r → r.system.terminal.console.input ≡ [])
call_byte None e r is other = absurd cc
call_byte (Some function.SystemReset) e r is other = absurd cc
call_byte (Some (function.Console console.Input)) e r is other = (λ none. ap (λ l. (taken_from r.system.terminal.column l).ending) none, none_taken r.system.terminal.column r.system.terminal.console.input)
call_byte (Some (function.Console console.Output)) e r is other = absurd cc
call_byte (Some (function.Console console.Direct)) e r is other = absurd (by_byte (e == 255) is) where
  by_byte : (all : Bool) → (if all then how.Poll else how.Glance) ≡ how.Wait → ⊥
  by_byte true e = absurd cc
  by_byte false e = absurd cc
call_byte (Some (function.Console console.PrintString)) e r is other = absurd cc
call_byte (Some (function.Console console.ReadLine)) e r is other = absurd (other refl)
call_byte (Some (function.Console console.Status)) e r is other = absurd cc
call_byte (Some (function.Setting call)) e r is other = absurd cc
call_byte (Some (function.Search call)) e r is other = absurd cc
call_byte (Some (function.File call)) e r is other = absurd cc
call_byte (Some (function.Record call)) e r is other = absurd cc

entry_byte : {S : Type 0} (entry : Option BiosEntry) (r : RunState S Dialog) → entry_patience entry ≡ how.Wait
    → (r.system.terminal.console.input ≡ [] → EntryLacks entry r) × (EntryLacks entry r → r.system.terminal.console.input ≡ [])
entry_byte None r is = absurd cc
entry_byte (Some bios.ConsoleStatus) r is = absurd cc
entry_byte (Some bios.ConsoleInput) r is = (λ none. none, λ none. none)
entry_byte (Some bios.ConsoleOutput) r is = absurd cc

entry_at : {S : Type 0} (entry : Option ℕ) (r : RunState S Dialog) → patience_at (entry_or_program entry) r.machine.cpu ≡ how.Wait
    → (r.system.terminal.console.input ≡ [] → LacksAt (entry_or_program entry) r) × (LacksAt (entry_or_program entry) r → r.system.terminal.console.input ≡ [])
entry_at None r is = absurd cc
entry_at (Some n) r is = entry_byte (bios_entry_of n) r is

-- A step that waits, and not for a line, lacks a byte exactly if there is none.
pub byte_lacks : {S : Type 0} (r : RunState S Dialog) → patience_of r.machine.cpu ≡ how.Wait → ¬ TakesLine r.machine.cpu
    → (r.system.terminal.console.input ≡ [] → LacksInput r) × (LacksInput r → r.system.terminal.console.input ≡ [])
byte_lacks r is other = by_place (r.machine.cpu.pc == bdos) (λ at. eqb-true r.machine.cpu.pc bdos at) is where
  by_place : (at : Bool) → (at ≡ true → r.machine.cpu.pc ≡ bdos) → patience_at (if at then Call else entry_or_program (bios_entry r.machine.cpu.pc)) r.machine.cpu ≡ how.Wait
      → (r.system.terminal.console.input ≡ [] → LacksAt (if at then Call else entry_or_program (bios_entry r.machine.cpu.pc)) r)
      × (LacksAt (if at then Call else entry_or_program (bios_entry r.machine.cpu.pc)) r → r.system.terminal.console.input ≡ [])
  by_place true known here = call_byte (function_of r.machine.cpu.main.c) r.machine.cpu.main.e r here (λ f. other (known refl, f))
  by_place false known here = entry_at (bios_entry r.machine.cpu.pc) r here

-- ---- the echo of a line

pub line_echo : {S : Type 0} (r : RunState S Dialog) → TakesLine r.machine.cpu → next_echo r ≡ put_by (typed_line (line_room r) (screen (λ (d : Dialog). d) r.system.terminal)).events
line_echo r takes = ap (λ p. echo_at p r) (takes_at r.machine.cpu takes) ∙ ap (λ f. call_echo f r) takes.1

needs_byte : (room column : ℕ) (typed : List ℕ) → 0 < length (put_by (line_transcript room (record { bytes = []; start = column; column = column }) typed).events) → (0 < length typed) ⊎ (room ≡ 0)
needs_byte zero column typed some = inr refl
needs_byte (suc n) column [] some = absurd (let low : nat_le (suc n) 0 ≡ false = grind (arith, nat_tests) in
    let none = subst (λ (b : Bool). 0 < length (put_by (if b then line_ended (record { bytes = []; start = column; column = column }) else transcript [] NoInput).events)) low some in omega (arith, none))
needs_byte (suc n) column (byte ∷ typed) some = inl (omega arith)

-- an echo that is not empty needs a key, or a line without room
pub echo_due : {S : Type 0} (r : RunState S Dialog) → TakesLine r.machine.cpu → 0 < length (next_echo r) → MayHaveEcho r
echo_due r takes some = needs_byte (line_room r) r.system.terminal.column r.system.terminal.console.input (subst (λ (l : List ℕ). 0 < length l) (line_echo r takes) some)

pub longer : (echo ahead more : List ℕ) → echo ≡ ahead ++ more → 0 < length more → 0 < length echo
longer echo ahead more is some = let size = ap length is ∙ length-append ahead more in omega (arith, size, some)

pub none_more : (more : List ℕ) (none : Bool) → none ≡ (length more == 0) → none ≡ true → more ≡ []
none_more [] none is said = refl
none_more (byte ∷ more) none is said = absurd (let other = eqb-true (length (byte ∷ more)) 0 (sym is ∙ said) in omega (arith, other))

pub some_more : (more : List ℕ) (none : Bool) → none ≡ (length more == 0) → none ≡ false → 0 < length more
some_more [] none is said = absurd (let other : true ≡ false = sym is ∙ said in cc)
some_more (byte ∷ more) none is said = omega arith

other_call : {S : Type 0} (f : Option Function) (r : RunState S Dialog) → f ≢ Some (function.Console console.ReadLine) → call_echo f r ≡ []
other_call None r other = refl
other_call (Some function.SystemReset) r other = refl
other_call (Some (function.Console console.Input)) r other = refl
other_call (Some (function.Console console.Output)) r other = refl
other_call (Some (function.Console console.Direct)) r other = refl
other_call (Some (function.Console console.PrintString)) r other = refl
other_call (Some (function.Console console.ReadLine)) r other = absurd (other refl)
other_call (Some (function.Console console.Status)) r other = refl
other_call (Some (function.Setting call)) r other = refl
other_call (Some (function.Search call)) r other = refl
other_call (Some (function.File call)) r other = refl
other_call (Some (function.Record call)) r other = refl

other_entry : {S : Type 0} (entry : Option ℕ) (r : RunState S Dialog) → echo_at (entry_or_program entry) r ≡ []
other_entry None r = refl
other_entry (Some n) r = refl

-- before a step that takes no line there is no echo
pub no_echo : {S : Type 0} (r : RunState S Dialog) → ¬ TakesLine r.machine.cpu → next_echo r ≡ []
no_echo r other = by_place (r.machine.cpu.pc == bdos) (λ at. eqb-true r.machine.cpu.pc bdos at) where
  by_place : (at : Bool) → (at ≡ true → r.machine.cpu.pc ≡ bdos) → echo_at (if at then Call else entry_or_program (bios_entry r.machine.cpu.pc)) r ≡ []
  by_place true known = other_call (function_of r.machine.cpu.main.c) r (λ f. other (known refl, f))
  by_place false known = other_entry (bios_entry r.machine.cpu.pc) r

-- ---- steps that may be made

polls : (patience : Patience) → patience ≢ how.Wait → patience ≢ how.Glance → patience ≡ how.Poll
polls how.Glance other asks = absurd (asks refl)
polls how.Poll other asks = refl
polls how.Wait other asks = absurd (other refl)

-- a step that waits for nothing
pub may_step : {S : Type 0} (r : RunState S Dialog) (turns : ℕ) (a : Attention) → patience_of r.machine.cpu ≢ how.Wait → (patience_of r.machine.cpu ≡ how.Poll → a.here ≡ true)
    → (patience_of r.machine.cpu ≡ how.Poll → r.system.terminal.console.output ≡ Some []) → turns ≤ a.last + 4000000 → (place_at_pc r.machine.cpu.pc ≢ Program → a.bulk < 1048576) → HoldsFew r → MayStep r turns a
may_step r turns a other polled shown soon calm held = record {
  fed = λ lacks. absurd (other (waits r lacks));
  polled = polled;
  shown = λ asks. shown (polls (patience_of r.machine.cpu) other asks);
  soon = soon;
  calm = λ _ call. calm call;
  held = held;
}

-- a step that waits, and has its input
pub may_take : {S : Type 0} (r : RunState S Dialog) (turns : ℕ) (a : Attention) → patience_of r.machine.cpu ≡ how.Wait → (LacksInput r → a.ended ≡ true) → r.system.terminal.console.output ≡ Some [] → turns ≤ a.last + 4000000 → HoldsFew r
    → MayStep r turns a
may_take r turns a is fed all soon held = record { fed = fed; polled = λ e. absurd (let no : how.Wait ≡ how.Poll = sym is ∙ e in cc); shown = λ asks. all; soon = soon; calm = λ other. absurd (other is); held = held }
