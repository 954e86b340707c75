-- How a session looks at the keyboard.
use Rattle.std.proofs.Common.{◌≡◌, ◌≢◌, ◌<◌, ◌≤◌, ◌+◌, ◌-◌, ◌++◌, ◌∷◌, ◌⊎◌, [], inl, inr, ℕ, true, false, IfSome, List, Option, None, Some, Result, Ok, Err, length, refl, sym, ap, subst, ◌∙◌, append_assoc, append-nil, length-append, arith}
use Rattle.std.specs.Prelude.{OnOk, option_map}
use Rattle.z80_cpu.specs.declared.registers.Cpu.{Cpu}
use Rattle.z80_cpu.specs.State.{Machine, machine}
use Rattle.z80_machine.specs.Run.{Ended, Ran, Turns, is_watched}
use Rattle.z80_machine.specs.Run.Turns.{none as no_turns, more as one_more}
use Rattle.z80_machine.specs.Types.{Step}
use Rattle.z80_machine.specs.declared.runs.Stop.{Stop}
use Rattle.cpm_console.specs.Dialog.{Dialog, output_cleared, typed_in}
use Rattle.cpm_console.specs.Line.{NoInput, typed_line}
use Rattle.cpm_console.specs.Screen.{screen}
use Rattle.cpm_disk.specs.Image.{Image}
use Rattle.cpm_bdos.specs.System.{System, with_console}
use Rattle.cpm_disk.specs.declared.control.stop.Stop.{Stop as BdosStop}
use Rattle.cpm_disk.specs.declared.control.stop.Stop.TheVariants as stop
use Rattle.cpm_run.specs.declared.ending.Why.{Why}
use Rattle.cpm_run.specs.declared.ending.Why.TheVariants as why
use Rattle.cpm_run.specs.declared.arriving.Arrival.{Arrival}
use Rattle.cpm_run.specs.declared.arriving.PlayEnd.{PlayEnd}
use Rattle.cpm_run.specs.declared.playing.state.Playing.{Playing}
use Rattle.cpm_console.specs.declared.station.Patience.{Patience}
use Rattle.cpm_console.specs.declared.station.Patience.TheVariants as how
use Rattle.cpm_run.specs.declared.arriving.PlayEnd.TheVariants as play
use Rattle.cpm_console.specs.declared.station.Came.{Came}
use Rattle.cpm_console.specs.declared.station.Came.TheVariants as came
use Rattle.cpm_console.specs.declared.station.StationFault.{StationFault}
use Rattle.cpm_run.specs.Looks.{Attention, HoldsFew, IsLookDue, LacksInput, MayHaveEcho, MayLook, MayStep, TakesLine, after_look, after_show, after_step, line_room, next_echo, patience_at, patience_of, says_end, waits_after}
use Rattle.cpm_run.specs.Play.{Attends, CameWith, ComesTo, EndsAttended, EndsByLook, HasHappened, HasRun, NeedsNoStep, PlayState, RunsTo, arrived}
use Rattle.cpm_run.specs.Play.Attends.{a_look, a_step, a_show, an_echo}
use Rattle.cpm_console.specs.Seat.{Seat, SeatEvent, looks_in, with_events}
use Rattle.cpm_run.specs.Turns.{IsTurn, RunState, is_finished, step_end}
use Rattle.cpm_run.specs.Private.Playing.{AfterLook, Attended, HasEnded, HasStopped, IsAttended, IsDone, IsAhead, IsLooking, IsPut, IsQuiet, IsRefused, IsTold, LooksOn, ShowsRest, StepsTo, Watched, WatchedOn, state_of, waited}
use Rattle.cpm_run.proofs.Asked.{byte_lacks, line_lacks, may_step, may_take, no_echo}
use Rattle.cpm_run.proofs.Lacked.{lacked}
use Rattle.cpm_run.proofs.Waiting.{as_often, waits_asked}
use Rattle.cpm_run.proofs.Going.{Pauses, at, step_is_turn, system, turn_as, unwatched}

-- ---- lists of events

pub more_events : (first second : List SeatEvent) (a b c : Option (List SeatEvent)) → b ≡ with_events first a → c ≡ with_events second b → c ≡ with_events (first ++ second) a
more_events first second None b c is then = then ∙ ap (with_events second) is
more_events first second (Some known) b c is then = then ∙ ap (with_events second) is ∙ ap (λ l. Some l) (append_assoc known first second)

pub no_event : (a : Option (List SeatEvent)) → a ≡ with_events [] a
no_event None = refl
no_event (Some known) = ap (λ l. Some l) (sym (append-nil known))

-- what is shown is no look
showed_no_look : (bytes : List ℕ) (events : List SeatEvent) → looks_in (events ++ SeatEvent.showed bytes ∷ []) ≡ looks_in events
showed_no_look bytes [] = refl
showed_no_look bytes (SeatEvent.asked turns patience answer ∷ more) = ap (λ l. SeatEvent.asked turns patience answer ∷ l) (showed_no_look bytes more)
showed_no_look bytes (SeatEvent.showed other ∷ more) = showed_no_look bytes more
showed_no_look bytes (SeatEvent.not_showed other ∷ more) = showed_no_look bytes more

not_showed_no_look : (bytes : List ℕ) (events : List SeatEvent) → looks_in (events ++ SeatEvent.not_showed bytes ∷ []) ≡ looks_in events
not_showed_no_look bytes [] = refl
not_showed_no_look bytes (SeatEvent.asked turns patience answer ∷ more) = ap (λ l. SeatEvent.asked turns patience answer ∷ l) (not_showed_no_look bytes more)
not_showed_no_look bytes (SeatEvent.showed other ∷ more) = not_showed_no_look bytes more
not_showed_no_look bytes (SeatEvent.not_showed other ∷ more) = not_showed_no_look bytes more

pub unasked_showed : (bytes : List ℕ) (a b : Option (List SeatEvent)) → b ≡ with_events (SeatEvent.showed bytes ∷ []) a → option_map looks_in b ≡ option_map looks_in a
unasked_showed bytes None b is = ap (λ l. option_map looks_in l) is
unasked_showed bytes (Some known) b is = ap (λ l. option_map looks_in l) is ∙ ap (λ l. Some l) (showed_no_look bytes known)

pub unasked_not_showed : (bytes : List ℕ) (a b : Option (List SeatEvent)) → b ≡ with_events (SeatEvent.not_showed bytes ∷ []) a → option_map looks_in b ≡ option_map looks_in a
unasked_not_showed bytes None b is = ap (λ l. option_map looks_in l) is
unasked_not_showed bytes (Some known) b is = ap (λ l. option_map looks_in l) is ∙ ap (λ l. Some l) (not_showed_no_look bytes known)

-- something was shown, or not, with nothing ahead of the program
pub refused_of : (A : Type 0) {E : Type 0} {S : Type 0} (e : E) (mid after : Seat) (p : Playing S) → p.ahead.items ≡ [] → ShowsRest {A = A} (Err e) p mid after → IsRefused mid after
refused_of A e mid after p none (inl (rest, put, noted)) = (rest, noted)
refused_of A e mid after p none (inr (put, is, other, same)) = absurd (other put (ap (λ (l : List ℕ). l ++ put) (sym none)))

pub told_of : {A E : Type 0} {S : Type 0} (result : Result A E) (before mid after : Seat) (p q : Playing S) → IsQuiet before p mid → ShowsRest result p mid after → OnOk result (q.ahead.items ≡ []) → IsTold result before q after
told_of (Ok done) before mid after p q quiet (rest, put, noted) none =
    record { none = none; events = quiet.events ++ SeatEvent.showed rest ∷ []; told = more_events quiet.events _ before.events mid.events after.events quiet.told noted }
told_of {A} (Err e) before mid after p q quiet shows none =
    let refused = refused_of A e mid after p quiet.none shows in
    (quiet.events, refused.0, more_events quiet.events _ before.events mid.events after.events quiet.told refused.1)

-- ---- steps

-- a step after which nobody had looked
same_attention : (a : Attention) → a.here ≡ false → after_step a ≡ a
same_attention a none = ap (λ h. record { events = a.events; ahead = a.ahead; last = a.last; bulk = a.bulk; here = h; ended = a.ended }) (sym none)

pub not_wait : (patience : Patience) → patience ≡ how.Glance → patience ≢ how.Wait
not_wait patience is waits = absurd (let e : how.Glance ≡ how.Wait = sym is ∙ waits in cc)

pub not_poll : {A : Type 0} (patience : Patience) → patience ≡ how.Glance → patience ≡ how.Poll → A
not_poll patience is polls = absurd (let e : how.Glance ≡ how.Poll = sym is ∙ polls in cc)

-- at an address that is not watched nobody is asked
glance_at : (m : Machine) → is_watched system m.cpu.pc ≡ false → patience_of m.cpu ≡ how.Glance
glance_at m e = ap (λ p. patience_at p m.cpu) (unwatched m.cpu.pc e).0

-- nothing is put and not shown
pub few_held : {S : Type 0} (r : RunState S Dialog) → r.system.terminal.console.output ≡ Some [] → HoldsFew r
few_held r all = subst (λ (l : Option (List ℕ)). IfSome l (λ bytes. length bytes < 4096)) (sym all) (let few : 0 < 4096 = omega arith in few)

-- how much is still to be shown does not depend on how it is found
pub as_long : (ahead rest other : List ℕ) → ahead ++ rest ≡ ahead ++ other → length rest ≡ length other
as_long ahead rest other is =
    let whole = sym (length-append ahead rest) ∙ ap length is ∙ length-append ahead other in
    omega (arith, whole)

pub one_put : (xs ys : List ℕ) → ◌≡◌ {A = Option (List ℕ)} (Some xs) (Some ys) → xs ≡ ys
one_put xs ys is = cc

module _ {S : Type 0} (sectors : S → Image) (faults : S → ℕ) where
  abbrev moved_to : PlayState S → ℕ → RunState S Dialog → PlayState S
  moved_to s n run = record s { run = run; turns = n }

  free_step : (m : Machine) (s : System S Dialog) (turns : ℕ) (a : Attention) → is_watched system m.cpu.pc ≡ false → turns ≤ a.last + 4000000 → HoldsFew (at m s) → MayStep (at m s) turns a
  free_step m s turns a e soon held = may_step (at m s) turns a (not_wait (patience_of m.cpu) (glance_at m e)) (not_poll (patience_of m.cpu) (glance_at m e)) (not_poll (patience_of m.cpu) (glance_at m e)) soon (λ call. absurd (call (unwatched m.cpu.pc e).0)) held

  -- the steps that the machine makes between two addresses of the system
  pub ran_on : {k : ℕ} {old new : Machine} (start s : PlayState S) (system_then : System S Dialog) (a : Attention) → a.here ≡ false → s.turns + k ≤ a.last + 4000000 → IfSome system_then.terminal.console.output (λ bytes. length bytes < 4096)
      → Attends sectors faults start (moved_to s s.turns (at old system_then)) a → Turns system k old new → Attends sectors faults start (moved_to s (s.turns + k) (at new system_then)) a
  ran_on start s system_then a none soon held before (no_turns m) =
      let made : s.turns ≡ s.turns + 0 = omega arith in
      subst (λ n. Attends sectors faults start (moved_to s n (at m system_then)) a) made before
  ran_on start s system_then a none soon held before (one_more j old mid new first e is) =
      let made : s.turns + j + 1 ≡ s.turns + (j + 1) = omega arith in
      let there = ran_on start s system_then a none (omega (arith, soon)) held before first in
      let now = a_step (at new system_then) (moved_to s (s.turns + j) (at mid system_then)) a there (unwatched mid.cpu.pc e).1 (free_step mid system_then (s.turns + j) a e (omega (arith, soon)) held)
      (step_is_turn sectors faults (λ (d : Dialog). d) Step.Done mid new system_then e is) in
      subst (λ n. Attends sectors faults start (moved_to s n (at new system_then)) a) made
      (subst (λ (b : Attention). Attends sectors faults start (moved_to s (s.turns + j + 1) (at new system_then)) b) (same_attention a none) now)

  -- the machine stopped, and the session goes on
  paused_at : (most k : ℕ) (stop : Stop) (old new : Machine) (start s : PlayState S) (system_then : System S Dialog) (a : Attention) → a.here ≡ false → s.turns + most ≤ a.last + 4000000
      → IfSome system_then.terminal.console.output (λ bytes. length bytes < 4096)
      → Attends sectors faults start (moved_to s s.turns (at old system_then)) a → Ran system most k stop old new → Pauses stop → Attends sectors faults start (moved_to s (s.turns + k) (at new system_then)) a
  paused_at most k Stop.Watched old new start s system_then a none soon held before made pauses = ran_on start s system_then a none (let m = made.0 in omega (arith, soon, m)) held before made.1
  paused_at most k Stop.Limit old new start s system_then a none soon held before made pauses = ran_on start s system_then a none (let m = made.0 in omega (arith, soon, m)) held before made.1
  paused_at most k Stop.Halted old new start s system_then a none soon held before made pauses = absurd (pauses.0 refl)
  paused_at most k Stop.Undocumented old new start s system_then a none soon held before made pauses = absurd (pauses.1 refl)

  pub paused_on : (most k : ℕ) (stop : Stop) (old new : Machine) (start s : PlayState S) (system_then : System S Dialog) (a : Attention) → a.here ≡ false → s.turns + most ≤ a.last + 4000000
      → IfSome system_then.terminal.console.output (λ bytes. length bytes < 4096)
      → Attends sectors faults start (moved_to s s.turns (at old system_then)) a → Ran system most k stop old new → Pauses stop → Attends sectors faults start (moved_to s (s.turns + k) (at new system_then)) (after_step a)
  paused_on most k stop old new start s system_then a none soon held before made pauses =
      subst (λ (b : Attention). Attends sectors faults start (moved_to s (s.turns + k) (at new system_then)) b) (sym (same_attention a none)) (paused_at most k stop old new start s system_then a none soon held before made pauses)

  -- the last step of the machine ends the run
  pub ended_on : (k : ℕ) (outcome : Step) (end : Why) (old new : Machine) (start s : PlayState S) (system_then : System S Dialog) (a : Attention) → step_end outcome ≡ Some end → a.here ≡ false → s.turns + k ≤ a.last + 4000000
      → IfSome system_then.terminal.console.output (λ bytes. length bytes < 4096)
      → Attends sectors faults start (moved_to s s.turns (at old system_then)) a → Ended system k outcome old new → EndsAttended sectors faults start end (moved_to s (s.turns + k + 1) (at new system_then)) a
  ended_on k outcome end old new start s system_then a is none soon held before (last, made, e, step) = (
    moved_to s (s.turns + k) (at last system_then),
    ran_on start s system_then a none soon held before made,
    (unwatched last.cpu.pc e).1,
    free_step last system_then (s.turns + k) a e soon held,
    turn_as sectors faults (λ (d : Dialog). d) (step_end outcome) (Some end) (at last system_then) (at new system_then) is (step_is_turn sectors faults (λ (d : Dialog). d) outcome last new system_then e step),
    refl,
    refl,
  )

  -- one step, which may end the run
  pub step_on : (end : Option Why) (start s : PlayState S) (run : RunState S Dialog) (a : Attention) → Attends sectors faults start s a → is_finished s.run.machine.cpu.pc ≡ false → MayStep s.run s.turns a
      → IsTurn sectors faults (λ (d : Dialog). d) s.run end run → StepsTo sectors faults end start (moved_to s (s.turns + 1) run) a
  step_on None start s run a before going may turn = a_step run s a before going may turn
  step_on (Some why) start s run a before going may turn = (s, before, going, may, turn, refl, refl)

  -- no step ended the run
  stepped_on : (end : Option Why) (start new : PlayState S) (a : Attention) → ((why : Why) → end ≢ Some why) → StepsTo sectors faults end start new a → Attends sectors faults start new (after_step a)
  stepped_on None start new a other made = made
  stepped_on (Some why) start new a other made = absurd (other why refl)

  -- steps were made, and none ended the run
  pub kept_looking : (end : Option Why) (start : PlayState S) (before after : Seat) (p q : Playing S) (a : Attention) (watched : Watched sectors faults start before p after a) → ((why : Why) → end ≢ Some why)
      → StepsTo sectors faults end start (state_of q watched.shown) a → q.ahead.items ≡ p.ahead.items → q.looked ≡ p.looked → p.turns ≤ q.turns → q.allowance ≡ p.allowance → q.ended ≡ p.ended → Watched sectors faults start before q after (after_step a)
  kept_looking end start before after p q a watched other made ahead looked later allowance ended = record {
    shown = watched.shown;
    attends = stepped_on end start (state_of q watched.shown) a other made;
    events = watched.events;
    ahead = watched.ahead ∙ sym ahead;
    last = watched.last ∙ sym looked;
    past = let was = watched.past in omega (arith, was, looked, later);
    allowance = allowance ∙ watched.allowance;
    ended = watched.ended ∙ sym ended;
  }

  -- a step ended the run
  pub done_by : (end : Why) (start : PlayState S) (before after : Seat) (p q : Playing S) (a : Attention) (watched : Watched sectors faults start before p after a) → EndsAttended sectors faults start end (state_of q watched.shown) a
      → q.ahead.items ≡ p.ahead.items → q.ended ≡ p.ended → IsPut (Some end) q → IsDone sectors faults start end before q after
  done_by end start before after p q a watched ends ahead ended put = record {
    so_far = a;
    runs = inr ends;
    put = put;
    events = watched.events;
    ahead = watched.ahead ∙ sym ahead;
    ended = watched.ended ∙ sym ended;
  }

  -- the run ended without another step
  pub done : (end : Why) (start : PlayState S) (before after : Seat) (p : Playing S) (a : Attention) → NeedsNoStep end → Watched sectors faults start before p after a → p.ahead.items ≡ [] → IsDone sectors faults start end before p after
  done end start before after p a ends watched none = record { so_far = a; runs = inl (ends, (watched.shown, watched.attends)); put = inl none; events = watched.events; ahead = watched.ahead; ended = watched.ended }

  -- ---- looks

  look_with : (patience : Patience) (answer : Result Came StationFault) (bytes : List ℕ) (start s : PlayState S) (a : Attention) (m : Machine) (system_then : System S Dialog) (turns : ℕ) (arrivals : List Arrival)
      → MayLook patience s.run s.turns a → CameWith answer bytes → m ≡ s.run.machine → turns ≡ s.turns
      → system_then ≡ with_console (typed_in bytes s.run.system.terminal.console) s.run.system → arrivals ≡ s.arrivals ++ arrived s.turns bytes → Attends sectors faults start s a
      → Attends sectors faults start (record { run = at m system_then; turns = turns; arrivals = arrivals; shown = s.shown }) (after_look s.turns patience answer a)
  look_with patience answer bytes start s a m system_then turns arrivals may with machines made typed came before =
      let now = a_look patience answer bytes s a before may with in
      rw (machines, made, typed, came) now

  -- a look with bytes, after which the session goes on
  pub looked : (patience : Patience) (answer : Result Came StationFault) (bytes : List ℕ) (start : PlayState S) (before mid after : Seat) (p q : Playing S) (a : Attention) → Watched sectors faults start before p mid a
      → MayLook patience (state_of p []).run p.turns a → after.events ≡ with_events (SeatEvent.asked p.turns patience answer ∷ []) mid.events → CameWith answer bytes
      → q.cpu ≡ p.cpu → q.memory ≡ p.memory → q.turns ≡ p.turns → q.bdos ≡ with_console (typed_in bytes p.bdos.terminal.console) p.bdos → q.arrivals.items ≡ p.arrivals.items ++ arrived p.turns bytes
      → q.ahead.items ≡ p.ahead.items → q.looked ≡ q.turns → q.allowance ≡ 1048576 → says_end answer ≡ q.ended
      → (b : Attention) × Watched sectors faults start before q after b × (b.here ≡ true) × (waits_after q.turns a.events + waited patience ≤ waits_after q.turns b.events)
  looked patience answer bytes start before mid after p q a watched may noted with cpu memory turns typed came ahead now allowance ended = (
    after_look p.turns patience answer a,
    record {
      shown = watched.shown;
      attends = look_with patience answer bytes start (state_of p watched.shown) a (machine q.cpu q.memory) q.bdos q.turns q.arrivals.items may with (ap (λ c. machine c q.memory) cpu ∙ ap (λ m. machine p.cpu m) memory) turns typed came watched.attends;
      events = more_events a.events _ before.events mid.events after.events watched.events noted;
      ahead = watched.ahead ∙ sym ahead;
      last = sym turns ∙ sym now;
      past = omega (arith, now);
      allowance = omega (arith, allowance);
      ended = ended;
    },
    refl,
    subst (λ (n : ℕ). waits_after n a.events + waited patience ≤ waits_after n (a.events ++ SeatEvent.asked p.turns patience answer ∷ [])) (sym turns) (let one = waits_asked p.turns patience answer a.events in omega (arith, one)),
  )

  -- a look that says that no key will come
  pub looked_in_vain : (patience : Patience) (start : PlayState S) (before mid after : Seat) (p q : Playing S) (a : Attention) → Watched sectors faults start before p mid a
      → MayLook patience (state_of p []).run p.turns a → after.events ≡ with_events (SeatEvent.asked p.turns patience (Ok came.End) ∷ []) mid.events
      → q.cpu ≡ p.cpu → q.memory ≡ p.memory → q.turns ≡ p.turns → q.bdos ≡ p.bdos → q.arrivals.items ≡ p.arrivals.items → q.ahead.items ≡ p.ahead.items → q.looked ≡ q.turns → q.allowance ≡ 1048576 → true ≡ q.ended
      → (b : Attention) × Watched sectors faults start before q after b × (b.here ≡ true) × (waits_after q.turns a.events + waited patience ≤ waits_after q.turns b.events)
  looked_in_vain patience start before mid after p q a watched may noted cpu memory turns system_same arrived_none ahead now allowance ended =
      let none : with_console (typed_in [] p.bdos.terminal.console) p.bdos ≡ p.bdos = ap (λ l. with_console (record p.bdos.terminal.console { input = l }) p.bdos) (append-nil p.bdos.terminal.console.input) in
      looked patience (Ok came.End) [] start before mid after p q a watched may noted refl cpu memory turns (system_same ∙ sym none) (arrived_none ∙ sym (append-nil p.arrivals.items)) ahead now allowance ended

  -- a look that ended the session
  pub looked_last : (patience : Patience) (answer : Result Came StationFault) (start : PlayState S) (before mid after : Seat) (p q : Playing S) (a : Attention) → Watched sectors faults start before p mid a
      → MayLook patience (state_of p []).run p.turns a → after.events ≡ with_events (SeatEvent.asked p.turns patience answer ∷ []) mid.events
      → q.cpu ≡ p.cpu → q.memory ≡ p.memory → q.bdos ≡ p.bdos → q.turns ≡ p.turns → q.arrivals.items ≡ p.arrivals.items
      → (events : List SeatEvent) × (after.events ≡ with_events events before.events) × EndsByLook sectors faults start (state_of q []) answer events
  looked_last patience answer start before mid after p q a watched may noted cpu memory same turns came = (
    a.events ++ SeatEvent.asked p.turns patience answer ∷ [],
    more_events a.events _ before.events mid.events after.events watched.events noted,
    rw (cpu, memory, same, turns, came) (a, (watched.shown, watched.attends), (patience, may, refl)),
  )

  -- ---- what is shown

  -- the screen took what was put
  pub showed_rest : (start : PlayState S) (before mid after : Seat) (p q : Playing S) (a : Attention) (rest : List ℕ) → Watched sectors faults start before p mid a → p.bdos.terminal.console.output ≡ Some (p.ahead.items ++ rest)
      → q.bdos ≡ with_console (output_cleared p.bdos.terminal.console) p.bdos → q.cpu ≡ p.cpu → q.memory ≡ p.memory → q.turns ≡ p.turns → q.arrivals.items ≡ p.arrivals.items → q.looked ≡ p.looked → q.allowance ≡ p.allowance - length rest → q.ended ≡ p.ended → q.ahead.items ≡ []
      → after.events ≡ with_events (SeatEvent.showed rest ∷ []) mid.events → (b : Attention) × Watched sectors faults start before q after b × (b.here ≡ a.here) × ((n : ℕ) → waits_after n a.events ≤ waits_after n b.events)
  showed_rest start before mid after p q a rest watched put cleared cpu memory turns arrivals now spent ended ahead noted = (
    after_show rest [] a,
    record {
      shown = watched.shown ++ (a.ahead ++ rest);
      attends = rw (cpu, memory, turns, arrivals, cleared) (a_show rest (state_of p watched.shown) a watched.attends (put ∙ ap (λ (l : List ℕ). Some (l ++ rest)) (sym watched.ahead)));
      events = more_events a.events _ before.events mid.events after.events watched.events noted;
      ahead = sym ahead;
      last = watched.last ∙ sym now;
      past = let was = watched.past in omega (arith, was, now, turns);
      allowance = let was = watched.allowance in omega (arith, was, spent);
      ended = watched.ended ∙ sym ended;
    },
    refl,
    λ n. as_often n rest a.events,
  )

  -- more of the echo is shown
  pub showed_echo : (start : PlayState S) (before mid after : Seat) (p q : Playing S) (a : Attention) (more : List ℕ) → Watched sectors faults start before p mid a → p.bdos.terminal.console.output ≡ Some [] → next_echo (state_of p []).run ≡ p.ahead.items ++ more
      → q.bdos ≡ p.bdos → q.cpu ≡ p.cpu → q.memory ≡ p.memory → q.turns ≡ p.turns → q.arrivals.items ≡ p.arrivals.items → q.looked ≡ p.looked → q.allowance ≡ p.allowance - length more → q.ended ≡ p.ended → q.ahead.items ≡ p.ahead.items ++ more
      → after.events ≡ with_events (SeatEvent.showed more ∷ []) mid.events → (b : Attention) × Watched sectors faults start before q after b × (b.here ≡ a.here) × ((n : ℕ) → waits_after n a.events ≤ waits_after n b.events)
  showed_echo start before mid after p q a more watched all echo same cpu memory turns arrivals now spent ended ahead noted = (
    after_show more (a.ahead ++ more) a,
    record {
      shown = watched.shown;
      attends = rw (cpu, memory, turns, arrivals, same) (an_echo more (state_of p watched.shown) a watched.attends all (echo ∙ ap (λ (l : List ℕ). l ++ more) (sym watched.ahead)));
      events = more_events a.events _ before.events mid.events after.events watched.events noted;
      ahead = ap (λ (l : List ℕ). l ++ more) watched.ahead ∙ sym ahead;
      last = watched.last ∙ sym now;
      past = let was = watched.past in omega (arith, was, now, turns);
      allowance = let was = watched.allowance in omega (arith, was, spent);
      ended = watched.ended ∙ sym ended;
    },
    refl,
    λ n. as_often n more a.events,
  )

  -- what was put begins with what is shown ahead of it
  pub not_behind : (A : Type 0) {E : Type 0} (end : Option Why) (e : E) (mid after : Seat) (p : Playing S) → IsPut end p → end ≢ Some (why.Stopped stop.ConsoleFault) → ShowsRest {A = A} (Err e) p mid after
      → (rest : List ℕ) × (p.bdos.terminal.console.output ≡ Some (p.ahead.items ++ rest)) × (after.events ≡ with_events (SeatEvent.not_showed rest ∷ []) mid.events)
  not_behind A end e mid after p put well (inl shows) = shows
  not_behind A end e mid after p (inl none) well (inr (put, known, other, same)) = absurd (other put (ap (λ (l : List ℕ). l ++ put) (sym none)))
  not_behind A end e mid after p (inr is) well (inr (put, known, other, same)) = absurd (other [] (one_put put p.ahead.items (sym known ∙ is well) ∙ sym (append-nil p.ahead.items)))

  -- the screen failed
  pub screen_failed : (A : Type 0) {E : Type 0} (fault : E) (start : PlayState S) (before mid after : Seat) (p q : Playing S) (a : Attention) → HasRun sectors faults start (state_of q []) a → mid.events ≡ with_events a.events before.events → a.ahead ≡ p.ahead.items
      → q.bdos.terminal.console.output ≡ p.bdos.terminal.console.output → (end : Option Why) → IsPut end p → end ≢ Some (why.Stopped stop.ConsoleFault) → ShowsRest {A = A} (Err fault) p mid after → HasEnded sectors faults play.Failed start before q after
  screen_failed A fault start before mid after p q a runs events ahead output end is_put well shows =
      let (rest, put, noted) = not_behind A end fault mid after p is_put well shows in (
        a.events ++ SeatEvent.not_showed rest ∷ [],
        more_events a.events _ before.events mid.events after.events events noted,
        inr (inl (a, runs, (rest, inl (output ∙ put ∙ ap (λ (l : List ℕ). Some (l ++ rest)) (sym ahead)), refl))),
      )

  -- ---- before a step

  -- a look is still due once all is shown
  pub still_due : (patience : Patience) (start : PlayState S) (before mid after : Seat) (p q : Playing S) (a b : Attention) → patience ≢ how.Wait → Watched sectors faults start before p mid a → Watched sectors faults start before q after b
      → q.cpu ≡ p.cpu → q.turns ≡ p.turns → q.looked ≡ p.looked → q.allowance ≤ p.allowance → b.here ≡ a.here → IsLookDue patience (state_of p []).run p.turns a → IsLookDue patience (state_of q []).run q.turns b
  still_due how.Wait start before mid after p q a b other was now cpu turns same less here due = absurd (other refl)
  still_due how.Poll start before mid after p q a b other was now cpu turns same less here due = (ap (λ (r : Cpu). patience_of r) cpu ∙ due.0, here ∙ due.1)
  still_due how.Glance start before mid after p q a b other was now cpu turns same less here due = (
    λ polls. due.0 (sym (ap (λ (r : Cpu). patience_of r) cpu) ∙ polls),
    elim due.1 [
      | inl long ↦ inl (let first = was.last in let then = now.last in omega (arith, long, first, then, same, turns))
      | inr loud ↦ inr (let first = was.allowance in let then = now.allowance in omega (arith, loud, first, then, less))
    ],
  )

  -- a step that waits for nothing
  pub looking_on : (start : PlayState S) (before after : Seat) (p : Playing S) → IsLooking sectors faults start before p after → patience_of p.cpu ≢ how.Wait → IsAttended sectors faults start before p after
  looking_on start before after p looking quick = record {
    so_far = looking.so_far;
    watched = looking.watched;
    lately = looking.lately;
    may = may_step (state_of p []).run p.turns looking.so_far quick looking.polled looking.shown (let lately = looking.lately in let last = looking.watched.last in omega (arith, lately, last)) (λ _. looking.calm) looking.held;
    ahead = inl looking.none;
  }

  -- a step that waits, and has its input
  pub attended : (start : PlayState S) (before after : Seat) (p : Playing S) (a : Attention) → Watched sectors faults start before p after a → patience_of p.cpu ≡ how.Wait
      → (LacksInput (state_of p []).run → p.ended ≡ true) → p.turns < p.looked + 2000000 → p.bdos.terminal.console.output ≡ Some [] → IsAhead p → IsAttended sectors faults start before p after
  attended start before after p a watched is fed lately all ahead = record {
    so_far = a;
    watched = watched;
    lately = lately;
    may = may_take (state_of p []).run p.turns a is (λ lacks. watched.ended ∙ fed lacks) all (let last = watched.last in omega (arith, lately, last)) (few_held (state_of p []).run all);
    ahead = ahead;
  }

  -- a look that waits for a byte
  pub byte_look : (start : PlayState S) (before after : Seat) (p : Playing S) (a : Attention) → Watched sectors faults start before p after a → patience_of p.cpu ≡ how.Wait → ¬ TakesLine p.cpu → p.bdos.terminal.console.output ≡ Some []
      → p.ahead.items ≡ [] → p.bdos.terminal.console.input ≡ [] → p.ended ≡ false → MayLook how.Wait (state_of p []).run p.turns a
  byte_look start before after p a watched is other all empty lacks not_ended = record {
    due = ((byte_lacks (state_of p []).run is other).0 lacks, watched.ended ∙ not_ended);
    all = all;
    echo = watched.ahead ∙ empty ∙ sym (no_echo (state_of p []).run other);
  }

  -- a look that waits for a line
  pub line_look : (start : PlayState S) (before after : Seat) (p : Playing S) (a : Attention) → Watched sectors faults start before p after a → TakesLine p.cpu → p.bdos.terminal.console.output ≡ Some []
      → p.ahead.items ≡ next_echo (state_of p []).run → (typed_line (line_room (state_of p []).run) (screen (λ (d : Dialog). d) p.bdos.terminal)).ending ≡ NoInput → p.ended ≡ false → MayLook how.Wait (state_of p []).run p.turns a
  line_look start before after p a watched takes all echo lacks not_ended = record {
    due = (line_lacks (state_of p []).run takes lacks, watched.ended ∙ not_ended);
    all = all;
    echo = watched.ahead ∙ echo;
  }

  -- a look that does not wait
  pub quick_look : (patience : Patience) (start : PlayState S) (before after : Seat) (p : Playing S) (a : Attention) → patience ≢ how.Wait → Watched sectors faults start before p after a → p.bdos.terminal.console.output ≡ Some [] → p.ahead.items ≡ []
      → IsLookDue patience (state_of p []).run p.turns a → MayLook patience (state_of p []).run p.turns a
  quick_look how.Wait start before after p a other watched all empty due = absurd (other refl)
  quick_look how.Poll start before after p a other watched all empty due = record { due = due; all = all; echo = watched.ahead ∙ empty }
  quick_look how.Glance start before after p a other watched all empty due = record { due = due; all = all; echo = watched.ahead ∙ empty }

  -- a look after something was shown
  pub look_after : {A : Type 0} (patience : Patience) (result : Result A PlayEnd) (start : PlayState S) (before after : Seat) (p : Playing S) (a b : Attention) → ((n : ℕ) → waits_after n a.events ≤ waits_after n b.events)
      → AfterLook sectors faults patience result start before p after b → AfterLook sectors faults patience result start before p after a
  look_after patience (Ok done) start before after p a b less (now, watched, here, more) = (now, watched, here, let few = less p.turns in omega (arith, few, more))
  look_after patience (Err end) start before after p a b less ended = ended

  -- the next step may follow a look, unless it lacks input
  pub looks_after : {A : Type 0} (patience : Patience) (result : Result A PlayEnd) (start : PlayState S) (before after : Seat) (p : Playing S) (a : Attention) → OnOk result (p.looked ≡ p.turns) → OnOk result (p.allowance ≡ 1048576) → OnOk result (p.bdos.terminal.console.output ≡ Some []) → OnOk result (p.ahead.items ≡ [])
      → AfterLook sectors faults patience result start before p after a → LooksOn sectors faults result start before p after
  looks_after patience (Ok done) start before after p a now whole all none (b, watched, here, more) = record { so_far = b; watched = watched; polled = λ _. here; shown = λ _. all; lately = omega (arith, now); calm = let allowed = watched.allowance in omega (arith, allowed, whole); held = few_held (state_of p []).run all; none = none }
  looks_after patience (Err end) start before after p a now whole all none ended = ended

  -- memory ran out for the echo
  pub echo_short : (start : PlayState S) (before after : Seat) (p : Playing S) (a : Attention) → TakesLine p.cpu → MayHaveEcho (state_of p []).run → Watched sectors faults start before p after a → HasEnded sectors faults play.NoMemory start before p after
  echo_short start before after p a line due watched = (a.events, watched.events, inl (a, (watched.shown, watched.attends), line, due, refl))

  -- the screen did not take the echo
  pub echo_refused : (start : PlayState S) (before mid after : Seat) (p : Playing S) (a : Attention) (more : List ℕ) → ComesTo sectors faults start (state_of p []) a → next_echo (state_of p []).run ≡ a.ahead ++ more → mid.events ≡ with_events a.events before.events
      → after.events ≡ with_events (SeatEvent.not_showed more ∷ []) mid.events → HasEnded sectors faults play.Failed start before p after
  echo_refused start before mid after p a more comes echo events noted =
      (a.events ++ SeatEvent.not_showed more ∷ [], more_events a.events _ before.events mid.events after.events events noted, inr (inl (a, inl comes, (more, inr echo, refl))))

  -- nothing came in many looks
  pub in_vain : (start : PlayState S) (before after : Seat) (p : Playing S) (a : Attention) → Watched sectors faults start before p after a → 4294967295 ≤ waits_after p.turns a.events → HasEnded sectors faults play.Failed start before p after
  in_vain start before after p a watched many = (a.events, watched.events, inr (inr (a, inl ((watched.shown, watched.attends), many, refl))))

  -- an error of a call ended the session
  pub attended_so : {A : Type 0} (end : PlayEnd) (result : Result A PlayEnd) (start : PlayState S) (before after : Seat) (p : Playing S) → result ≡ Err end → HasStopped sectors faults end start before p after → Attended sectors faults result start before p after
  attended_so {A} end result start before after p is ended = subst (λ (r : Result A PlayEnd). Attended sectors faults r start before p after) (sym is) ended

  pub looked_so : {A : Type 0} (patience : Patience) (end : PlayEnd) (result : Result A PlayEnd) (start : PlayState S) (before after : Seat) (p : Playing S) (a : Attention) → result ≡ Err end → HasStopped sectors faults end start before p after
      → AfterLook sectors faults patience result start before p after a
  looked_so {A} patience end result start before after p a is ended = subst (λ (r : Result A PlayEnd). AfterLook sectors faults patience r start before p after a) (sym is) ended

  pub watched_so : {A : Type 0} (end : PlayEnd) (result : Result A PlayEnd) (start : PlayState S) (before after : Seat) (p : Playing S) (a : Attention) → result ≡ Err end → HasStopped sectors faults end start before p after
      → WatchedOn sectors faults result start before p after a
  watched_so {A} end result start before after p a is ended = subst (λ (r : Result A PlayEnd). WatchedOn sectors faults r start before p after a) (sym is) ended

  -- as which end a failed screen ends the session
  pub failed_as : (end : PlayEnd) (start : PlayState S) (before after : Seat) (p : Playing S) → end ≡ play.Failed → HasEnded sectors faults play.Failed start before p after → HasStopped sectors faults end start before p after
  failed_as end start before after p is ended = subst (λ (e : PlayEnd). HasStopped sectors faults e start before p after) (sym is) ended

  -- as which end want of memory ends the session
  pub short_as : (end : PlayEnd) (start : PlayState S) (before after : Seat) (p : Playing S) → end ≡ play.NoMemory → HasEnded sectors faults play.NoMemory start before p after → HasStopped sectors faults end start before p after
  short_as end start before after p is ended = subst (λ (e : PlayEnd). HasStopped sectors faults e start before p after) (sym is) ended

  -- the session ended otherwise than with the run
  pub stopped_with : (end : PlayEnd) (start : PlayState S) (before after : Seat) (p : Playing S) → ((why : Why) → end ≢ play.Run why) → HasStopped sectors faults end start before p after → HasEnded sectors faults end start before p after
  stopped_with (play.Run why) start before after p other ended = absurd (other why refl)
  stopped_with play.Left start before after p other ended = ended
  stopped_with play.Failed start before after p other ended = ended
  stopped_with play.NoMemory start before after p other ended = ended

  -- ---- the end

  -- the run ended, and the rest was shown
  pub closed_run : (end : Why) (start : PlayState S) (before mid after : Seat) (p : Playing S) (rest : List ℕ) → IsDone sectors faults start end before p mid → p.bdos.terminal.console.output ≡ Some (p.ahead.items ++ rest)
      → after.events ≡ with_events (SeatEvent.showed rest ∷ []) mid.events → HasEnded sectors faults (play.Run end) start before p after
  closed_run end start before mid after p rest done_so put noted = (
    done_so.so_far.events ++ SeatEvent.showed rest ∷ [],
    more_events done_so.so_far.events _ before.events mid.events after.events done_so.events noted,
    (done_so.so_far, done_so.runs, (rest, put ∙ ap (λ (l : List ℕ). Some (l ++ rest)) (sym done_so.ahead), refl)),
  )

  -- a run that a call stopped ended by a step
  pub by_a_step : (reason : BdosStop) (start new : PlayState S) (a : Attention) → RunsTo sectors faults start (why.Stopped reason) new a → EndsAttended sectors faults start (why.Stopped reason) new a
  by_a_step reason start new a (inl (inl is, comes)) = absurd cc
  by_a_step reason start new a (inl (inr is, comes)) = absurd cc
  by_a_step reason start new a (inr ends) = ends

  -- a run ended for want of input only if no key was to come
  pub fed_to_the_end : (end : Why) (start : PlayState S) (before after : Seat) (p : Playing S) → IsDone sectors faults start end before p after → end ≡ why.Stopped stop.EndOfInput → p.ended ≡ true
  fed_to_the_end end start before after p done_so is =
      let (s, attends, going, may, turn, made, came) = by_a_step stop.EndOfInput start (state_of p []) done_so.so_far (subst (λ w. RunsTo sectors faults start w (state_of p []) done_so.so_far) is done_so.runs) in
      sym done_so.ended ∙ may.fed (lacked sectors faults s.run (state_of p []).run (Some (why.Stopped stop.EndOfInput)) refl turn)

  run_of : (end : Why) (start new : PlayState S) (a : Attention) → RunsTo sectors faults start end new a → HasRun sectors faults start new a
  run_of end start new a (inl (ends, comes)) = inl comes
  run_of end start new a (inr ends) = inr (end, ends)

  fault_or : (end : Why) → (end ≡ why.Stopped stop.ConsoleFault) ⊎ (◌≢◌ {A = Option Why} (Some end) (Some (why.Stopped stop.ConsoleFault)))
  fault_or why.Finished = inr (λ e. absurd cc)
  fault_or why.Halted = inr (λ e. absurd cc)
  fault_or why.Undocumented = inr (λ e. absurd cc)
  fault_or why.TurnLimit = inr (λ e. absurd cc)
  fault_or (why.Stopped (stop.UnsupportedFunction n)) = inr (λ e. absurd cc)
  fault_or (why.Stopped stop.FileReadOnly) = inr (λ e. absurd cc)
  fault_or (why.Stopped stop.BadFcb) = inr (λ e. absurd cc)
  fault_or (why.Stopped stop.DiskFault) = inr (λ e. absurd cc)
  fault_or (why.Stopped stop.EndOfInput) = inr (λ e. absurd cc)
  fault_or (why.Stopped stop.UnknownDrive) = inr (λ e. absurd cc)
  fault_or (why.Stopped stop.ConsoleFault) = inl refl
  fault_or (why.Stopped (stop.UnsupportedBios n)) = inr (λ e. absurd cc)
  fault_or why.ComTooLong = inr (λ e. absurd cc)
  fault_or why.TailTooLong = inr (λ e. absurd cc)
  fault_or why.NoMemory = inr (λ e. absurd cc)

  -- memory ran out for what function 10 put, so the rest of that is not shown
  echo_lost : (A : Type 0) {E : Type 0} (fault : E) (end : Why) (start : PlayState S) (before mid after : Seat) (p : Playing S) (done_so : IsDone sectors faults start end before p mid) → end ≡ why.Stopped stop.ConsoleFault → ShowsRest {A = A} (Err fault) p mid after
      → HasEnded sectors faults play.Failed start before p after
  echo_lost A fault end start before mid after p done_so is (inl (rest, put, noted)) = (
    done_so.so_far.events ++ SeatEvent.not_showed rest ∷ [],
    more_events done_so.so_far.events _ before.events mid.events after.events done_so.events noted,
    inr (inl (done_so.so_far, run_of end start (state_of p []) done_so.so_far done_so.runs, (rest, inl (put ∙ ap (λ (l : List ℕ). Some (l ++ rest)) (sym done_so.ahead)), refl))),
  )
  echo_lost A fault end start before mid after p done_so is (inr (put, known, other, same)) = (
    done_so.so_far.events,
    same ∙ done_so.events,
    inr (inr (
      done_so.so_far,
      inr (
        by_a_step stop.ConsoleFault start (state_of p []) done_so.so_far (subst (λ w. RunsTo sectors faults start w (state_of p []) done_so.so_far) is done_so.runs),
        (λ rest at. other rest (one_put put (done_so.so_far.ahead ++ rest) (sym known ∙ at) ∙ ap (λ (l : List ℕ). l ++ rest) done_so.ahead)),
        refl,
      ),
    )),
  )

  -- the run ended, and the rest was not shown
  pub closed_failed : (A : Type 0) {E : Type 0} (fault : E) (end : Why) (start : PlayState S) (before mid after : Seat) (p : Playing S) → IsDone sectors faults start end before p mid → ShowsRest {A = A} (Err fault) p mid after → HasEnded sectors faults play.Failed start before p after
  closed_failed A fault end start before mid after p done_so shows = elim (fault_or end) [
    | inl is ↦ echo_lost A fault end start before mid after p done_so is shows
    | inr well ↦ screen_failed A fault start before mid after p p done_so.so_far (run_of end start (state_of p []) done_so.so_far done_so.runs) done_so.events done_so.ahead refl (Some end) done_so.put well shows
  ]

  -- what happened does not depend on what was shown so far
  pub happened : (end : PlayEnd) (start : PlayState S) (p : Playing S) (shown : List ℕ) (events : List SeatEvent) → HasHappened sectors faults end start (state_of p []) events → HasHappened sectors faults end start (state_of p shown) events
  happened (play.Run why) start p shown events is = is
  happened play.Left start p shown events is = is
  happened play.NoMemory start p shown events is = is
  happened play.Failed start p shown events is = is
