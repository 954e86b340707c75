-- What a command does to a session.
use Rattle.std.specs.Prelude.{◌≡◌, ◌+◌, ◌-◌, ◌^◌, ◌||◌, ℕ, Bool, false, true, List, [], ◌∷◌, ◌++◌, min, Option, Some, None, Ok, Err, option_map, unwrap_or}
use Rattle.machine_history.specs.declared.calls.ReturnPlace.{ReturnPlace}
use Rattle.debugger_commands.specs.declared.command.Command.{Command}
use Rattle.debugger_commands.specs.declared.command.Command.TheVariants as command
use Rattle.machine_history.specs.declared.history.Outcome.{Outcome}
use Rattle.machine_history.specs.declared.history.Outcome.TheVariants as outcome
use Rattle.machine_history.specs.declared.stops.Goal.{Goal}
use Rattle.machine_history.specs.declared.stops.Goal.TheVariants as goal
use Rattle.machine_history.specs.declared.stops.Hit.{Hit}
use Rattle.state_text.specs.declared.registers.RegisterName.TheVariants as name
use Rattle.machine_history.specs.declared.stops.Stops.{Stops}
use Rattle.machine_history.specs.Calls.{IsCallBefore, call_place, shown_place}
use Rattle.machine_history.specs.Going.{RanUntil, ShowsTurn}
use Rattle.state_text.specs.Labelled.{Known}
use Rattle.machine_history.specs.Stops.{IsLast}
use Rattle.debugger.specs.Text.{Says, breakpoints_at, most_turns, watches_at}
use Rattle.debugger_commands.specs.Typed.{Reading, line_meaning, refusal_line}
use Rattle.machine_history.specs.Walk.{IsTrue_of_run, Shown}

-- the number of the last turn that can be counted
abbrev pub last_turn : ℕ
last_turn = 2 ^ 64 - 1

-- Turns are made until a breakpoint or a watched byte holds, the goal is reached, or the run ends; at most 100,000,000. The answer is which of
-- these it was.
abbrev pub RunsOn : Option Goal → Stops → Shown → Shown → Option Outcome → Type 0
RunsOn goal stops old new told = (outcome : Outcome) × (told ≡ Some outcome) × RanUntil goal stops (min most_turns (last_turn - old.turn)) old new outcome

-- the point after this number of turns is shown, and there is no answer
abbrev pub GoesTo : ℕ → Shown → Option Outcome → Type 0
GoesTo turn new told = ShowsTurn turn new × (told ≡ None)

-- PC is at this address
abbrev pub at_address : ℕ → Goal
at_address address = goal.At (record { address = address; condition = None })

-- PC is at the address of a place, and SP has its value
abbrev pub at_place : ReturnPlace → Goal
at_place place = goal.At (record { address = place.address; condition = Some (record { register = name.Sp; value = place.sp }) })

-- `next`: one turn; or, if a call is at PC, many up to the return from it
abbrev pub Nexts : Option ReturnPlace → Stops → Shown → Shown → Option Outcome → Type 0
Nexts None stops old new told = GoesTo (min last_turn (old.turn + 1)) new told
Nexts (Some place) stops old new told = RunsOn (Some (at_place place)) stops old new told

abbrev pub turn_or_0 : Option (ℕ × Hit) → ℕ
turn_or_0 (Some (turn, why)) = turn
turn_or_0 None = 0

-- `back-run`: back to the last turn before at which something held, which is the answer; or to the start
abbrev pub BackRuns : Stops → Shown → Shown → Option Outcome → Type 0
BackRuns stops old new told =
    (last : Option (ℕ × Hit)) × IsLast stops old (old.turn - 1) last × ShowsTurn (turn_or_0 last) new × (told ≡ option_map (λ found. outcome.Held found.1) last)

-- `back-next`: back to the call over which `next` leads here; or by one turn, if there is none
abbrev pub BackNexts : Shown → Shown → Option Outcome → Type 0
BackNexts old new told = (call : Option ℕ) × IsCallBefore (shown_place old.point.state) old.start old.turn call × GoesTo (unwrap_or call (old.turn - 1)) new told

-- What is shown after a command, and the answer of a command that runs to something. Every other command leaves it as it was.
abbrev pub Moves : Command → Stops → Shown → Shown → Option Outcome → Type 0
Moves (command.Step count) stops old new told = GoesTo (min last_turn (old.turn + count)) new told
Moves (command.Back count) stops old new told = GoesTo (old.turn - count) new told
Moves (command.Turn turn) stops old new told = GoesTo turn new told
Moves (command.Run None) stops old new told = RunsOn None stops old new told
Moves (command.Run (Some address)) stops old new told = RunsOn (Some (at_address address)) stops old new told
Moves command.Next stops old new told = Nexts (call_place old.point.state) stops old new told
Moves command.Finish stops old new told = RunsOn (Some (goal.ReturnAbove old.point.state.machine.cpu.sp)) stops old new told
Moves command.BackRun stops old new told = BackRuns stops old new told
Moves command.BackNext stops old new told = BackNexts old new told
Moves command stops old new told = (new ≡ old) × (told ≡ None)

-- The breakpoints and the watches after a command. Every other command leaves them as they were.
abbrev pub Sets : Command → Stops → Stops → Type 0
Sets (command.Break breakpoint) old new = (new.breakpoints.items ≡ old.breakpoints.items ++ breakpoint ∷ []) × (new.watches ≡ old.watches)
Sets (command.Watch from count) old new = (new.breakpoints ≡ old.breakpoints) × (new.watches.items ≡ old.watches.items ++ record { from = from; count = count } ∷ [])
Sets (command.Delete None) old new = (new.breakpoints.items ≡ []) × (new.watches.items ≡ [])
Sets (command.Delete (Some address)) old new =
    (new.breakpoints.items ≡ breakpoints_at address false old.breakpoints.items) × (new.watches.items ≡ watches_at address false old.watches.items)
Sets command old new = new ≡ old

-- whether a command ends the session
abbrev pub is_quit : Command → Bool
is_quit command.Quit = true
is_quit command = false

-- A command is obeyed, and its answer is printed; a blank line changes and prints nothing; a line that is refused changes nothing, and the
-- answer says why.
abbrev pub AnswersAs : Reading (Option Command) → Known → List ℕ → Shown → Stops → Bool → Shown → Stops → Bool → List ℕ → Type 0
AnswersAs (Ok (Some command)) known listing shown stops over new there is_over text =
    (told : Option Outcome) × Moves command stops shown new told × Sets command stops there × (is_over ≡ (over || is_quit command)) × Says command stops told shown new known listing text
AnswersAs (Ok None) known listing shown stops over new there is_over text = (new ≡ shown) × (there ≡ stops) × (is_over ≡ over) × (text ≡ [])
AnswersAs (Err refused) known listing shown stops over new there is_over text = (new ≡ shown) × (there ≡ stops) × (is_over ≡ over) × (text ≡ refusal_line refused)

-- What is shown later is a point of the same run, after its number of turns.
abbrev pub IsSameRun : Shown → Shown → Type 0
IsSameRun old new = (new.start ≡ old.start) × IsTrue_of_run new

-- A line is answered by what it means in the state that is shown, and what is shown later stays true of the run.
abbrev pub Obeys : Known → List ℕ → List ℕ → Shown → Stops → Bool → Shown → Stops → Bool → List ℕ → Type 0
Obeys known listing line shown stops over new there is_over text = IsSameRun shown new × AnswersAs (line_meaning known shown.point.state.machine.cpu line) known listing shown stops over new there is_over text
