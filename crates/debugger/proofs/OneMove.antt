-- A command has one answer.
use Rattle.std.proofs.Common.{◌≡◌, ◌+◌, ℕ, List, Option, Some, None, refl, sym, ap, subst, ◌∙◌}
use Rattle.std.specs.Prelude.{◌-◌, min, option_map, unwrap_or}
use Rattle.z80_cpu.specs.State.{Machine}
use Rattle.cpm_run.specs.Undisturbed.{IsUndisturbed}
use Rattle.cpm_run.specs.declared.ending.Why.{Why}
use Rattle.machine_history.specs.Alike.{AlikeHistories, AlikeStates, IsCalm}
use Rattle.machine_history.specs.Calls.{IsCallTo, call_place, shown_place}
use Rattle.machine_history.specs.Going.{RanUntil, ShowsTurn}
use Rattle.debugger.specs.Session.{BackNexts, BackRuns, GoesTo, Moves, Nexts, RunsOn, at_address, at_place, last_turn, turn_or_0}
use Rattle.machine_history.specs.Stops.{IsLast}
use Rattle.machine_history.specs.Walk.{IsAfter, IsTrue_of_run, MemoryState, Shown, limit_end}
use Rattle.machine_history.specs.declared.calls.ReturnPlace.{ReturnPlace}
use Rattle.debugger_commands.specs.declared.command.Command.{Command}
use Rattle.debugger_commands.specs.declared.command.Command.TheVariants as command
use Rattle.machine_history.specs.declared.history.Outcome.{Outcome}
use Rattle.machine_history.specs.declared.history.Outcome.TheVariants as outcome
use Rattle.debugger.specs.Text.{most_turns}
use Rattle.machine_history.specs.declared.stops.Goal.{Goal}
use Rattle.machine_history.specs.declared.stops.Goal.TheVariants as goal
use Rattle.machine_history.specs.declared.stops.Hit.{Hit}
use Rattle.machine_history.specs.declared.stops.Stops.{Stops}
use Rattle.cpm_run.proofs.OneRun.{OneStep}
use Rattle.machine_history.proofs.OneState.{first_points, one_number, one_state, with_machine}
use Rattle.machine_history.proofs.OneStop.{one_call, one_last, one_stop}

abbrev told_of : Outcome → Option Outcome
told_of o = Some o

-- two histories that show the same, of runs that begin alike
module _ (one_step : OneStep) (printed : List ℕ) (old other new there : Shown) (told said : Option Outcome) (alike : AlikeHistories printed old other) (after : IsTrue_of_run new) (too : IsTrue_of_run there)
    (start : new.start ≡ old.start) (beginning : there.start ≡ other.start) (was_calm : IsCalm old.point) (calm : IsCalm new.point) (quiet : IsCalm there.point) where
  abbrev Same : Type 0
  Same = (said ≡ told) × AlikeHistories printed new there

  starts : AlikeStates printed new.start there.start
  starts = subst (λ (s : MemoryState). AlikeStates printed s there.start) (sym start) (subst (λ (s : MemoryState). AlikeStates printed old.start s) (sym beginning) alike.starts)

  other_calm : IsCalm other.point
  other_calm = subst (λ (e : Option Why). IsUndisturbed (limit_end e)) (sym alike.points.ends) was_calm

  shows_same : (turn : ℕ) → ShowsTurn turn new → ShowsTurn turn there → AlikeHistories printed new there
  shows_same turn one two =
      let number = one_number one_step printed turn new there starts calm quiet after too one two in
      record {
        starts = starts;
        turn = number;
        points = one_state one_step printed new.start there.start new.turn new.point there.point starts calm quiet after (subst (λ (n : ℕ). IsAfter there.start n there.point) number too);
      }

  goes_same : (turn number : ℕ) → number ≡ turn → GoesTo turn new told → GoesTo number there said → Same
  goes_same turn number e one two = (two.1 ∙ sym one.1, shows_same turn one.0 (subst (λ (n : ℕ). ShowsTurn n there) e two.0))

  runs_same : (stops : Stops) (goal aim : Option Goal) → aim ≡ goal → RunsOn goal stops old new told → RunsOn aim stops other there said → Same
  runs_same stops goal aim e one two =
      let limit : ℕ → ℕ = λ (turn : ℕ). min most_turns (last_turn - turn) in
      let their_way = subst (λ (n : ℕ). RanUntil goal stops (limit n) other there two.0) alike.turn (subst (λ (g : Option Goal). RanUntil g stops (limit other.turn) other there two.0) e two.2) in
      let both = one_stop one_step printed goal stops (limit old.turn) old other new there one.0 two.0 alike.points alike.turn calm quiet one.2 their_way in
      (two.1 ∙ ap (λ (o : Outcome). told_of o) both.0 ∙ sym one.1, record { starts = starts; turn = both.1; points = both.2 })

  nexts_same : (stops : Stops) (place : Option ReturnPlace) → Nexts place stops old new told → Nexts place stops other there said → Same
  nexts_same stops None one two = goes_same (min last_turn (old.turn + 1)) (min last_turn (other.turn + 1)) (ap (λ (n : ℕ). min last_turn (n + 1)) alike.turn) one two
  nexts_same stops (Some place) one two = runs_same stops (Some (at_place place)) (Some (at_place place)) refl one two

  back_runs_same : (stops : Stops) → BackRuns stops old new told → BackRuns stops other there said → Same
  back_runs_same stops one two =
      let theirs = subst (λ (n : ℕ). IsLast stops other (n - 1) two.0) alike.turn two.1 in
      let found = one_last one_step printed stops old other (old.turn - 1) one.0 two.0 alike.starts was_calm other_calm one.1 theirs in
      (two.3 ∙ ap (option_map (λ (h : ℕ × Hit). outcome.Held h.1)) found ∙ sym one.3, shows_same (turn_or_0 one.0) one.2 (subst (λ (l : Option (ℕ × Hit)). ShowsTurn (turn_or_0 l) there) found two.2))

  back_nexts_same : BackNexts old new told → BackNexts other there said → Same
  back_nexts_same one two =
      let place = shown_place old.point.state in
      let same_place : shown_place other.point.state ≡ place = ap (λ (m : Machine). shown_place (with_machine m other.point.state)) alike.points.states.machine in
      let theirs = subst (λ (p : ReturnPlace). IsCallTo p other.start old.turn two.1.0 two.0) same_place (subst (λ (n : ℕ). IsCallTo (shown_place other.point.state) other.start n two.1.0 two.0) alike.turn two.1.2) in
      let found = one_call one_step printed place old.start other.start old.turn one.1.0 two.1.0 one.0 two.0 (first_points printed old.start other.start alike.starts) one.1.2 theirs in
      goes_same (unwrap_or one.0 (old.turn - 1)) (unwrap_or two.0 (other.turn - 1)) (ap (λ (c : Option ℕ). unwrap_or c (other.turn - 1)) found ∙ ap (λ (n : ℕ). unwrap_or one.0 (n - 1)) alike.turn) one.2 two.2

  stays_same : (new ≡ old) × (told ≡ None) → (there ≡ other) × (said ≡ None) → Same
  stays_same one two = (two.1 ∙ sym one.1, subst (λ (h : Shown). AlikeHistories printed h there) (sym one.0) (subst (λ (h : Shown). AlikeHistories printed old h) (sym two.0) alike))

  pub one_move : (command : Command) (stops : Stops) → Moves command stops old new told → Moves command stops other there said → Same
  one_move (command.Step n) stops one two = goes_same (min last_turn (old.turn + n)) (min last_turn (other.turn + n)) (ap (λ (k : ℕ). min last_turn (k + n)) alike.turn) one two
  one_move (command.Back n) stops one two = goes_same (old.turn - n) (other.turn - n) (ap (λ (k : ℕ). k - n) alike.turn) one two
  one_move (command.Turn turn) stops one two = goes_same turn turn refl one two
  one_move (command.Run None) stops one two = runs_same stops None None refl one two
  one_move (command.Run (Some address)) stops one two = runs_same stops (Some (at_address address)) (Some (at_address address)) refl one two
  one_move command.Next stops one two =
      nexts_same stops (call_place old.point.state) one (subst (λ (p : Option ReturnPlace). Nexts p stops other there said) (ap (λ (m : Machine). call_place (with_machine m other.point.state)) alike.points.states.machine) two)
  one_move command.Finish stops one two =
      runs_same stops (Some (goal.ReturnAbove old.point.state.machine.cpu.sp)) (Some (goal.ReturnAbove other.point.state.machine.cpu.sp)) (ap (λ (m : Machine). Some (goal.ReturnAbove m.cpu.sp)) alike.points.states.machine) one two
  one_move command.BackRun stops one two = back_runs_same stops one two
  one_move command.BackNext stops one two = back_nexts_same one two
  one_move command stops one two = stays_same one two
