-- A session that is played again from its own record ends as it did.
use Rattle.std.proofs.Common.{◌≡◌, ◌≢◌, ◌<◌, ◌≤◌, ◌+◌, ◌++◌, ◌∷◌, ◌⊎◌, [], ℕ, zero, suc, true, false, List, Option, Some, None, get_or, length, slice_get, take, refl, sym, ap, subst, ◌∙◌, arith, append-nil, inl, inr, length-append}
use Rattle.std.proofs.KnownBytes.{Keeps-refl}
use Rattle.std.proofs.lemmas.Bool.{cases_eq, cases_lt}
use Rattle.std.proofs.lemmas.List.{take-append-le, take_all}
use Rattle.std.proofs.lemmas.Option.{slice_get-get_or, slice_get_within}
use Rattle.std.specs.Io.KnownBytes.{Keeps}
use Rattle.z80_cpu.specs.State.{Machine}
use Rattle.z80_cpu.specs.declared.registers.Cpu.{Cpu}
use Rattle.cpm_console.specs.Dialog.{Dialog}
use Rattle.cpm_bdos.specs.Alike.{AlikeDisks}
use Rattle.cpm_disk.specs.Calls.{Mounted}
use Rattle.cpm_disk.specs.Image.{Image}
use Rattle.cpm_run.specs.declared.arriving.Arrival.{Arrival}
use Rattle.cpm_run.specs.declared.arriving.PlayEnd.{PlayEnd}
use Rattle.cpm_run.specs.declared.arriving.PlayEnd.TheVariants as play
use Rattle.cpm_run.specs.declared.ending.Why.{Why}
use Rattle.cpm_run.specs.declared.ending.Why.TheVariants as why
use Rattle.cpm_run.specs.declared.fault.StartFault.{StartFault}
use Rattle.cpm_run.specs.declared.fault.StartFault.TheVariants as fault
use Rattle.cpm_run.specs.Run.{unstarted}
use Rattle.cpm_console.specs.Seat.{Seat}
use Rattle.cpm_run.specs.AlikeSessions.{AlikeSessions, IsEchoAfter, SameShown}
use Rattle.cpm_run.specs.Play.{EndsBy, FollowsRecord, IsEcho, IsInOrder, IsPlayed, IsReplayed, IsShownAgain, PlayedRunEnds, PlayEnds, PlayState, PlaysOn, ReplayEnds, Sees, due_from, first_state}
use Rattle.cpm_run.specs.Turns.{IsTurn, RunState, is_finished}
use Rattle.cpm_run.specs.Undisturbed.{EndsUndisturbed, IsUndisturbed}
use Rattle.cpm_run.proofs.Due.{due_same, last_same}
use Rattle.cpm_run.proofs.OneRun.{OneStep, had_memory, none_well, not_both, one_refusal, some_well}
use Rattle.cpm_run.proofs.OneSession.{Walk, alike, at_end, between, step_both, walk_of}
use Rattle.cpm_run.proofs.OneSession.Walk.{begin, step, byte, show}
use Rattle.cpm_run.proofs.Ordered.{bytes_in_order, walk_in_order}

-- an element of a list is there too if one more is at its end
at_front : {A : Type 0} (xs ys : List A) (y : A) (k : ℕ) → slice_get xs k ≡ Some y → slice_get (xs ++ ys) k ≡ Some y
at_front [] ys y k e = absurd cc
at_front (x ∷ xs) ys y zero e = e
at_front (x ∷ xs) ys y (suc k) e = at_front xs ys y k e

at_end_of : {A : Type 0} (xs : List A) (y : A) → slice_get (xs ++ y ∷ []) (length xs) ≡ Some y
at_end_of [] y = refl
at_end_of (x ∷ xs) y = at_end_of xs y

-- an element of the front of a list
in_front : {A : Type 0} (c k : ℕ) (xs : List A) (y : A) → slice_get (take c xs) k ≡ Some y → slice_get xs k ≡ Some y
in_front zero k xs y e = absurd cc
in_front (suc c) k [] y e = absurd cc
in_front (suc c) zero (x ∷ xs) y e = e
in_front (suc c) (suc k) (x ∷ xs) y e = in_front c k xs y e

of_front : {A : Type 0} (c k : ℕ) (xs : List A) (y : A) → k < c → slice_get xs k ≡ Some y → slice_get (take c xs) k ≡ Some y
of_front zero k xs y below e = absurd (omega (arith, below))
of_front (suc c) k [] y below e = absurd cc
of_front (suc c) zero (x ∷ xs) y below e = e
of_front (suc c) (suc k) (x ∷ xs) y below e = of_front c k xs y (omega (arith, below)) e

-- The bytes from this one on came after this number of steps or later; those before it came no later.
abbrev NoneSooner : ℕ → ℕ → List Arrival → Type 0
NoneSooner n c arrivals = (k : ℕ) (one : Arrival) → c ≤ k → slice_get arrivals k ≡ Some one → n ≤ one.turn

abbrev NoneLater : ℕ → ℕ → List Arrival → Type 0
NoneLater n c arrivals = (k : ℕ) (one : Arrival) → k < c → slice_get arrivals k ≡ Some one → one.turn ≤ n

-- all came before this number of steps was made
abbrev AllSooner : ℕ → List Arrival → Type 0
AllSooner n arrivals = (k : ℕ) (one : Arrival) → slice_get arrivals k ≡ Some one → one.turn < n

-- if all came sooner, none is left
none_left : (n c : ℕ) (arrivals : List Arrival) → NoneSooner (n + 1) c arrivals → ((k : ℕ) (one : Arrival) → slice_get arrivals k ≡ Some one → one.turn ≤ n) → length arrivals ≤ c
none_left n c arrivals later most = elim (cases_lt c (length arrivals)) [
  | inl inside ↦
      let nothing : Arrival = record { turn = 0; byte = 0 } in
      let here = slice_get-get_or arrivals c nothing inside in
      let late = later c (get_or arrivals c nothing) (omega arith) here in
      let soon = most c (get_or arrivals c nothing) here in
      absurd (omega (arith, late, soon))
  | inr outside ↦ omega (arith, outside)
]

module _ {S : Type 0} (sectors : S → Image) (faults : S → ℕ) where
  -- a step that does not end the run
  abbrev GoesOn : PlayState S → Type 0
  GoesOn s = (run : RunState S Dialog) × (is_finished s.run.machine.cpu.pc ≡ false) × IsTurn sectors faults (λ (d : Dialog). d) s.run None run

  -- A session when this number of steps was made and these bytes had come.
  record Halfway (start whole : PlayState S) (n c : ℕ) : Type 0 where
    state : PlayState S
    walk : Walk sectors faults start state
    turns : state.turns ≡ n
    arrivals : state.arrivals ≡ take c whole.arrivals
    same : n ≡ whole.turns → (state.run.machine ≡ whole.run.machine) × (state.run.system.disk ≡ whole.run.system.disk)
    going : n < whole.turns → is_finished state.run.machine.cpu.pc ≡ false
    goes : n < whole.turns → NoneSooner (n + 1) c whole.arrivals → GoesOn state

  -- the whole of it
  all_of : (start whole : PlayState S) (n c : ℕ) → Walk sectors faults start whole → n ≡ whole.turns → length whole.arrivals ≤ c → Halfway start whole n c
  all_of start whole n c walk turns most = record {
    state = whole;
    walk = walk;
    turns = sym turns;
    arrivals = sym (take_all c whole.arrivals most);
    same = λ _. (refl, refl);
    going = λ below. absurd (omega (arith, below, turns));
    goes = λ below later. absurd (omega (arith, below, turns));
  }

  halfway : {start whole : PlayState S} → start.arrivals ≡ [] → start.turns ≡ 0 → Walk sectors faults start whole → (n c : ℕ) → n ≤ whole.turns → NoneSooner n c whole.arrivals → NoneLater n c whole.arrivals → Halfway start whole n c
  halfway {start} empty zero_turns begin n c within sooner later =
      all_of start start n c begin (omega (arith, within, zero_turns)) (let none : length start.arrivals ≡ 0 = ap length empty in omega (arith, none))
  halfway {start} empty zero_turns (show bytes old walk known) n c within sooner later =
      let h = halfway empty zero_turns walk n c within sooner later in record {
        state = h.state;
        walk = h.walk;
        turns = h.turns;
        arrivals = h.arrivals;
        same = λ e. h.same e;
        going = λ below. h.going below;
        goes = λ below late. h.goes below late;
      }
  halfway {start} {whole} empty zero_turns (byte b old walk) n c within sooner later =
      let x : Arrival = record { turn = old.turns; byte = b } in
      elim (cases_lt (length old.arrivals) c) [
        | inl past ↦
            let most = later (length old.arrivals) x past (at_end_of old.arrivals x) in
            let size = length-append old.arrivals (x ∷ []) in
            all_of start whole n c (byte b old walk) (omega (arith, most, within)) (omega (arith, past, size))
        | inr within_old ↦
            let front : c ≤ length old.arrivals = omega (arith, within_old) in
            let h = halfway empty zero_turns walk n c within (λ k one le here. sooner k one le (at_front old.arrivals (x ∷ []) one k here)) (λ k one lt here. later k one lt (at_front old.arrivals (x ∷ []) one k here)) in record {
              state = h.state;
              walk = h.walk;
              turns = h.turns;
              arrivals = h.arrivals ∙ sym (take-append-le c old.arrivals (x ∷ []) front);
              same = λ e. h.same e;
              going = λ below. h.going below;
              goes = λ below late. h.goes below (λ k one le here. late k one le (at_front old.arrivals (x ∷ []) one k here));
            }
      ]
  halfway {start} {whole} empty zero_turns (step old run walk going turn) n c within sooner later =
      let order = walk_in_order sectors faults empty walk in
      elim (cases_eq n (old.turns + 1)) [
        | inl last ↦ all_of start whole n c (step old run walk going turn) last (none_left old.turns c old.arrivals (subst (λ m. NoneSooner m c old.arrivals) last sooner) (λ k one here. order.within k one here))
        | inr other ↦
            let before : n ≤ old.turns = omega (arith, within, other) in
            let h = halfway empty zero_turns walk n c before sooner later in
            elim (cases_lt n old.turns) [
              | inl below_old ↦ record {
                state = h.state;
                walk = h.walk;
                turns = h.turns;
                arrivals = h.arrivals;
                same = λ e. absurd (omega (arith, e, below_old));
                going = λ below. h.going below_old;
                goes = λ below late. h.goes below_old late;
              }
              | inr not_below ↦
                  let now : n ≡ old.turns = omega (arith, before, not_below) in
                  elim (cases_lt c (length old.arrivals)) [
                    | inl few ↦ record {
                      state = h.state;
                      walk = h.walk;
                      turns = h.turns;
                      arrivals = h.arrivals;
                      same = λ e. absurd (omega (arith, e, now));
                      going = λ below. ap (λ (m : Machine). is_finished m.cpu.pc) (h.same now).0 ∙ going;
                      goes = λ below late. absurd (let most = none_left old.turns c old.arrivals (subst (λ m. NoneSooner (m + 1) c old.arrivals) now late) (λ k one here. order.within k one here) in omega (arith, few, most));
                    }
                    | inr whole_old ↦ record {
                      state = old;
                      walk = walk;
                      turns = sym now;
                      arrivals = sym (take_all c old.arrivals (omega (arith, whole_old)));
                      same = λ e. absurd (omega (arith, e, now));
                      going = λ below. going;
                      goes = λ below late. (run, going, turn);
                    }
                  ]
            ]
      ]

module _ {S : Type 0} (sectors : S → Image) (faults : S → ℕ) (one_step : OneStep) (cpu : Cpu) (memory : List ℕ) (disk other : Mounted S) (disks : AlikeDisks sectors disk other) (limit : ℕ) where
  abbrev first : PlayState S
  first = first_state cpu memory disk

  abbrev again : PlayState S
  again = first_state cpu memory other

  -- a session that ended before a step
  abbrev Rests : PlayEnd → PlayState S → Type 0
  Rests end s =
      ((is_finished s.run.machine.cpu.pc ≡ true) × (end ≡ play.Run why.Finished))
      ⊎ (((s.turns ≡ limit) × (is_finished s.run.machine.cpu.pc ≡ false) × (end ≡ play.Run why.TurnLimit))
      ⊎ ((s.turns < limit) × (is_finished s.run.machine.cpu.pc ≡ false) × (end ≡ play.Left)))

  abbrev EndsWell : PlayState S → PlayEnd → PlayState S → Type 0
  EndsWell start end s = (PlaysOn sectors faults start s × Rests end s) ⊎ ((reason : Why) × (end ≡ play.Run reason) × IsUndisturbed reason × EndsBy sectors faults start reason s)

  run_well : (start : PlayState S) (reason : Why) (s : PlayState S) → IsUndisturbed reason → PlayedRunEnds sectors faults limit start reason s → EndsWell start (play.Run reason) s
  run_well start reason s calm (inl h) = inl (h.0, inl (h.1, ap (λ (w : Why). play.Run w) h.2))
  run_well start reason s calm (inr (inl h)) = inl (h.0, inr (inl (h.1, h.2, ap (λ (w : Why). play.Run w) h.3)))
  run_well start reason s calm (inr (inr h)) = inr (reason, refl, calm, h)

  pub played_well : (end : PlayEnd) (s : PlayState S) → EndsUndisturbed end → PlayEnds sectors faults limit first end s → EndsWell first end s
  played_well (play.Run reason) s calm ends = run_well first reason s calm ends
  played_well play.Left s calm ends = inl (ends.0, inr (inr (ends.2, ends.1, refl)))
  played_well play.Failed s calm ends = absurd calm
  played_well play.NoMemory s calm ends = absurd calm

  pub replayed_well : (last : ℕ) (end : PlayEnd) (s : PlayState S) → EndsUndisturbed end → ReplayEnds sectors faults limit last again end s → EndsWell again end s × (end ≡ play.Left → last ≤ s.turns)
  replayed_well last (play.Run reason) s calm ends = (run_well again reason s calm ends, λ e. absurd (let no : play.Run reason ≡ play.Left = e in cc))
  replayed_well last play.Left s calm ends = (inl (ends.0.0, inr (inr (ends.0.2, ends.0.1, refl))), λ e. ends.1)
  replayed_well last play.Failed s calm ends = absurd calm
  replayed_well last play.NoMemory s calm ends = absurd calm

  -- two sessions that ended before the same step
  rest_alike : (end cause : PlayEnd) (a b : PlayState S) → Rests end a → Rests cause b → b.turns ≡ a.turns → b.run.machine ≡ a.run.machine → cause ≡ end
  rest_alike end cause a b one two turns same = by_cases one two where
    finished : is_finished b.run.machine.cpu.pc ≡ is_finished a.run.machine.cpu.pc
    finished = ap (λ (m : Machine). is_finished m.cpu.pc) same

    by_cases : Rests end a → Rests cause b → cause ≡ end
    by_cases (inl h) (inl k) = k.1 ∙ sym h.1
    by_cases (inl h) (inr (inl k)) = absurd (let no : false ≡ true = sym k.1 ∙ finished ∙ h.0 in cc)
    by_cases (inl h) (inr (inr k)) = absurd (let no : false ≡ true = sym k.1 ∙ finished ∙ h.0 in cc)
    by_cases (inr (inl h)) (inl k) = absurd (let no : true ≡ false = sym k.0 ∙ finished ∙ h.1 in cc)
    by_cases (inr (inl h)) (inr (inl k)) = k.2 ∙ sym h.2
    by_cases (inr (inl h)) (inr (inr k)) = absurd (let x = h.0 in let y = k.0 in omega (arith, x, y, turns))
    by_cases (inr (inr h)) (inl k) = absurd (let no : true ≡ false = sym k.0 ∙ finished ∙ h.1 in cc)
    by_cases (inr (inr h)) (inr (inl k)) = absurd (let x = h.0 in let y = k.0 in omega (arith, x, y, turns))
    by_cases (inr (inr h)) (inr (inr k)) = k.2 ∙ sym h.2

  -- it does not rest before the session that it repeats did
  not_sooner : {A : Type 0} (cause : PlayEnd) (b : PlayState S) (last : ℕ) → Rests cause b → (cause ≡ play.Left → last ≤ b.turns) → b.turns < last → last ≤ limit → is_finished b.run.machine.cpu.pc ≡ false → A
  not_sooner cause b last (inl k) left sooner within going = absurd (let no : true ≡ false = sym k.0 ∙ going in cc)
  not_sooner cause b last (inr (inl k)) left sooner within going = absurd (let x = k.0 in omega (arith, x, sooner, within))
  not_sooner cause b last (inr (inr k)) left sooner within going = absurd (let x = left k.2 in omega (arith, x, sooner))

  abbrev OneEnd : PlayEnd → PlayEnd → PlayState S → PlayState S → Type 0
  OneEnd end cause a b = (cause ≡ end) × (b.turns ≡ a.turns) × (b.run.machine ≡ a.run.machine) × AlikeDisks sectors a.run.system.disk b.run.system.disk

  abbrev Walked : PlayState S → PlayState S → Type 0
  Walked start s = Walk sectors faults start s

  -- the bytes that came of a record came no later
  came_by : (n c : ℕ) (recorded arrivals : List Arrival) → arrivals ≡ take c recorded → IsInOrder arrivals n → NoneLater n c recorded
  came_by n c recorded arrivals front order = λ k one below here. order.within k one (ap (λ l. slice_get l k) front ∙ of_front c k recorded one below here)

  sooner_by : (n m c : ℕ) (arrivals : List Arrival) → n ≤ m → NoneSooner m c arrivals → NoneSooner n c arrivals
  sooner_by n m c arrivals le later = λ k one after here. let most = later k one after here in omega (arith, le, most)

  -- a step that ends the run, where the session that is repeated goes on
  not_ended : {A : Type 0} (whole b : PlayState S) (cause : Why) (c : ℕ) → Walked first whole → IsUndisturbed cause → EndsBy sectors faults again cause b → b.turns ≤ whole.turns → b.arrivals ≡ take c whole.arrivals → NoneSooner b.turns c whole.arrivals → A
  not_ended whole b cause c walk quiet (late, also, going, next, number, has, seen) within front later =
      let n = late.turns in
      let steps = walk_of sectors faults also in
      let arrivals : late.arrivals ≡ take c whole.arrivals = sym has ∙ front in
      let after : NoneSooner (n + 1) c whole.arrivals = subst (λ (k : ℕ). NoneSooner k c whole.arrivals) number later in
      let h = halfway sectors faults refl refl walk n c (omega (arith, within, number)) (sooner_by n (n + 1) c whole.arrivals (omega arith) after) (came_by n c whole.arrivals late.arrivals arrivals (walk_in_order sectors faults refl steps)) in
      let turn = h.goes (omega (arith, within, number)) after in
      let both = alike sectors faults one_step cpu memory disk other disks h.walk late steps (arrivals ∙ sym h.arrivals) (sym h.turns) in
      let step = step_both sectors faults one_step cpu memory disk other disks h.state late turn.0 b.run None (Some cause) none_well (some_well cause quiet) both turn.2 next in
      absurd (let no : ◌≡◌ {A = Option Why} (Some cause) None = step.0 in cc)

  both_rest : (end cause : PlayEnd) (a b : PlayState S) → PlaysOn sectors faults first a → Rests end a → PlaysOn sectors faults again b → Rests cause b → (cause ≡ play.Left → a.turns ≤ b.turns) → a.turns ≤ limit → FollowsRecord a.arrivals a.turns b.turns b.arrivals → OneEnd end cause a b
  both_rest end cause a b plays one also two left most f =
      let walk = walk_of sectors faults plays in
      let steps = walk_of sectors faults also in
      let h = halfway sectors faults refl refl walk b.turns f.count f.within f.later (came_by b.turns f.count a.arrivals b.arrivals f.front (walk_in_order sectors faults refl steps)) in
      let both = alike sectors faults one_step cpu memory disk other disks h.walk b steps (f.front ∙ sym h.arrivals) (sym h.turns) in
      elim (cases_lt b.turns a.turns) [
        | inl sooner ↦ not_sooner cause b a.turns two left sooner most (ap (λ (m : Machine). is_finished m.cpu.pc) both.machine ∙ h.going sooner)
        | inr not_sooner ↦
            let turns : b.turns ≡ a.turns = let within = f.within in omega (arith, within, not_sooner) in
            let same = h.same turns in
            let machine = both.machine ∙ same.0 in
            (rest_alike end cause a b one two turns machine, turns, machine, subst (λ (d : Mounted S). AlikeDisks sectors d b.run.system.disk) same.1 both.system.disk)
      ]

  first_ends : {A : Type 0} (reason : Why) (cause : PlayEnd) (a b : PlayState S) → IsUndisturbed reason → EndsBy sectors faults first reason a → PlaysOn sectors faults again b → Rests cause b → (cause ≡ play.Left → a.turns ≤ b.turns) → a.turns ≤ limit → FollowsRecord a.arrivals a.turns b.turns b.arrivals → A
  first_ends reason cause a b calm (last, plays, going, turn, count, had, shown) also two left most f =
      let walk = walk_of sectors faults plays in
      let steps = walk_of sectors faults also in
      let later : NoneSooner b.turns f.count last.arrivals = subst (λ (l : List Arrival). NoneSooner b.turns f.count l) had f.later in
      let front : b.arrivals ≡ take f.count last.arrivals = f.front ∙ ap (take f.count) had in
      elim (cases_lt last.turns b.turns) [
        | inl beyond ↦
            let n = last.turns in
            let order = walk_in_order sectors faults refl walk in
            let after : NoneSooner (n + 1) f.count last.arrivals = sooner_by (n + 1) b.turns f.count last.arrivals (omega (arith, beyond)) later in
            let whole : b.arrivals ≡ last.arrivals = front ∙ take_all f.count last.arrivals (none_left n f.count last.arrivals after (λ k one here. order.within k one here)) in
            let c = length b.arrivals in
            let none : (m : ℕ) → NoneSooner m c b.arrivals = λ m k one past here. absurd (let inside = slice_get_within b.arrivals k one here in omega (arith, inside, past)) in
            let h = halfway sectors faults refl refl steps n c (omega (arith, beyond)) (none n) (λ k one below here. order.within k one (ap (λ l. slice_get l k) (sym whole) ∙ here)) in
            let next = h.goes beyond (none (n + 1)) in
            let both = alike sectors faults one_step cpu memory disk other disks walk h.state h.walk (h.arrivals ∙ take_all c b.arrivals (omega arith) ∙ whole) h.turns in
            let step = step_both sectors faults one_step cpu memory disk other disks last h.state a.run next.0 (Some reason) None (some_well reason calm) none_well both turn next.2 in
            absurd (let no : ◌≡◌ {A = Option Why} None (Some reason) = step.0 in cc)
        | inr within ↦
            let h = halfway sectors faults refl refl walk b.turns f.count (omega (arith, within)) later (came_by b.turns f.count last.arrivals b.arrivals front (walk_in_order sectors faults refl steps)) in
            let both = alike sectors faults one_step cpu memory disk other disks h.walk b steps (front ∙ sym h.arrivals) (sym h.turns) in
            let goes : is_finished h.state.run.machine.cpu.pc ≡ false = elim (cases_lt b.turns last.turns) [
              | inl below ↦ h.going below
              | inr not_below ↦ ap (λ (m : Machine). is_finished m.cpu.pc) (h.same (omega (arith, within, not_below))).0 ∙ going
            ] in
            not_sooner cause b a.turns two left (omega (arith, within, count)) most (ap (λ (m : Machine). is_finished m.cpu.pc) both.machine ∙ goes)
      ]

  both_end : (reason cause : Why) (a b : PlayState S) → IsUndisturbed reason → IsUndisturbed cause → EndsBy sectors faults first reason a → EndsBy sectors faults again cause b → FollowsRecord a.arrivals a.turns b.turns b.arrivals → OneEnd (play.Run reason) (play.Run cause) a b
  both_end reason cause a b calm quiet one two f = elim (cases_lt b.turns a.turns) [
    | inl sooner ↦
        not_ended one.0 b cause f.count (walk_of sectors faults one.1) quiet two (let number = one.4 in omega (arith, sooner, number)) (f.front ∙ ap (take f.count) one.5) (subst (λ (l : List Arrival). NoneSooner b.turns f.count l) one.5 f.later)
    | inr not_sooner ↦
        let turns : b.turns ≡ a.turns = let within = f.within in omega (arith, within, not_sooner) in
        let order = walk_in_order sectors faults refl (walk_of sectors faults one.1) in
        let number : b.turns ≡ one.0.turns + 1 = turns ∙ one.4 in
        let later : NoneSooner (one.0.turns + 1) f.count one.0.arrivals = subst (λ (k : ℕ). NoneSooner k f.count one.0.arrivals) number (subst (λ (l : List Arrival). NoneSooner b.turns f.count l) one.5 f.later) in
        let few = none_left one.0.turns f.count one.0.arrivals later (λ k it here. order.within k it here) in
        let arrivals : b.arrivals ≡ a.arrivals = f.front ∙ ap (take f.count) one.5 ∙ take_all f.count one.0.arrivals few ∙ sym one.5 in
        let both = at_end sectors faults one_step cpu memory disk other disks a b reason cause calm quiet one two arrivals turns in
        (ap (λ (w : Why). play.Run w) both.0, turns, both.1.machine, both.1.system.disk)
  ]

  pub one_end : (end cause : PlayEnd) (a b : PlayState S) → EndsWell first end a → EndsWell again cause b → (cause ≡ play.Left → a.turns ≤ b.turns) → a.turns ≤ limit → FollowsRecord a.arrivals a.turns b.turns b.arrivals → OneEnd end cause a b
  one_end end cause a b (inl h) (inl k) left most f = both_rest end cause a b h.0 h.1 k.0 k.1 left most f
  one_end end cause a b (inl h) (inr k) left most f = not_ended a b k.0 f.count (walk_of sectors faults h.0) k.2 k.3 f.within f.front f.later
  one_end end cause a b (inr h) (inl k) left most f = first_ends h.0 cause a b h.2 h.3 k.0 k.1 left most f
  one_end end cause a b (inr h) (inr k) left most f =
      let both = both_end h.0 k.0 a b h.2 k.2 h.3 k.3 f in
      (k.1 ∙ both.0 ∙ sym h.1, both.1, both.2, both.3)

  -- so both sessions look alike at their ends, if the same bytes came
  pub one_alike : (end cause : PlayEnd) (a b : PlayState S) → EndsWell first end a → EndsWell again cause b → (cause ≡ play.Left → a.turns ≤ b.turns) → a.turns ≤ limit → FollowsRecord a.arrivals a.turns b.turns b.arrivals
      → b.arrivals ≡ a.arrivals → b.turns ≡ a.turns → AlikeSessions sectors a b
  one_alike end cause a b (inl h) (inl k) left most f arrivals turns = between sectors faults one_step cpu memory disk other disks a b h.0 k.0 arrivals turns
  one_alike end cause a b (inl h) (inr k) left most f arrivals turns = not_ended a b k.0 f.count (walk_of sectors faults h.0) k.2 k.3 f.within f.front f.later
  one_alike end cause a b (inr h) (inl k) left most f arrivals turns = first_ends h.0 cause a b h.2 h.3 k.0 k.1 left most f
  one_alike end cause a b (inr h) (inr k) left most f arrivals turns = (at_end sectors faults one_step cpu memory disk other disks a b h.0 k.0 h.2 k.2 h.3 k.3 arrivals turns).1

-- all bytes of a record came that came before the last step
all_again : (turns : ℕ) (recorded came : List Arrival) (end : PlayEnd) → (end ≡ play.Left) ⊎ AllSooner turns recorded → FollowsRecord recorded turns turns came → (end ≡ play.Left → came ≡ recorded) → came ≡ recorded
all_again turns recorded came end (inl e) f left = left e
all_again turns recorded came end (inr all) f left =
    f.front ∙ take_all f.count recorded (none_left turns f.count recorded (λ k one after here. absurd (let late = f.later k one after here in let soon = all k one here in omega (arith, late, soon))) (λ k one here. let soon = all k one here in omega (arith, soon)))

-- no byte came after the last step of a session, or the person left
none_after : (turns : ℕ) (arrivals : List Arrival) (end : PlayEnd) → EndsUndisturbed end → ((reason : Why) → end ≡ play.Run reason → AllSooner turns arrivals) → (end ≡ play.Left) ⊎ AllSooner turns arrivals
none_after turns arrivals (play.Run reason) calm before = inr (before reason refl)
none_after turns arrivals play.Left calm before = inl refl
none_after turns arrivals play.Failed calm before = absurd calm
none_after turns arrivals play.NoMemory calm before = absurd calm

-- ---- what the screen got

one_known : (xs ys : List ℕ) (output : Option (List ℕ)) → output ≡ Some xs → output ≡ Some ys → xs ≡ ys
one_known xs ys output one two = let both : ◌≡◌ {A = Option (List ℕ)} (Some xs) (Some ys) = sym one ∙ two in cc

-- all that was put is shown, and then such an echo
abbrev ShowsPut : {S : Type 0} → PlayEnd → Seat → Seat → PlayState S → List ℕ → Type 0
ShowsPut end before after s put = (echo : List ℕ) × ((more : List ℕ) → Keeps (before.screen (s.shown ++ put ++ echo ++ more)) (after.screen more)) × (end ≢ play.Left → echo ≡ []) × (end ≡ play.Left → IsEcho s.run echo)

put_in_first : {S : Type 0} (end : PlayEnd) (before after : Seat) (s : PlayState S) (put : List ℕ) → EndsUndisturbed end → Sees end before after s → s.run.system.terminal.console.output ≡ Some put → ShowsPut end before after s put
put_in_first (play.Run reason) before after s put calm (came, last, (bytes, known, all)) is =
    let same = ap (λ (l : List ℕ). s.shown ++ l) (one_known bytes put s.run.system.terminal.console.output known is) ∙ sym (append-nil (s.shown ++ put)) in
    ([], (λ more. subst (λ (l : List ℕ). Keeps (before.screen (l ++ more)) (after.screen more)) same (all more)), (λ other. refl), λ left. absurd cc)
put_in_first play.Left before after s put calm (left, known, (echo, is_echo, all)) is =
    let same = sym (append-nil s.shown) ∙ ap (λ (l : List ℕ). s.shown ++ l) (one_known [] put s.run.system.terminal.console.output known is) in
    (echo, (λ more. subst (λ (l : List ℕ). Keeps (before.screen (l ++ echo ++ more)) (after.screen more)) same (all more)), (λ other. absurd (other refl)), λ e. is_echo)
put_in_first play.Failed before after s put calm sees is = absurd calm
put_in_first play.NoMemory before after s put calm sees is = absurd calm

not_failed : (end : PlayEnd) → EndsUndisturbed end → end ≢ play.Failed
not_failed end calm is = subst EndsUndisturbed is calm

same_shown : {S : Type 0} (sectors : S → Image) (IsLineEcho : List ℕ → Type 0) (end cause : PlayEnd) (before after seat screen : Seat) (a b : PlayState S) → EndsUndisturbed end → EndsUndisturbed cause → Sees end before after a → IsShownAgain cause seat screen b → AlikeSessions sectors a b
    → ((echo : List ℕ) → end ≡ play.Left → IsEcho a.run echo → IsLineEcho echo) → SameShown IsLineEcho end before after seat screen
same_shown sectors IsLineEcho end cause before after seat screen a b calm quiet sees shown both of_line =
    let (put, also, known, other, together) = both.system.screen.dialog.output in
    let one = put_in_first end before after a put calm sees known in
    let two = shown.all (not_failed cause quiet) in record {
      bytes = a.shown ++ put;
      echo = one.0;
      first = one.1;
      again = λ more. subst (λ (l : List ℕ). Keeps (seat.screen (l ++ more)) (screen.screen more)) (ap (λ (l : List ℕ). b.shown ++ l) (one_known two.0 also b.run.system.terminal.console.output two.1 other) ∙ together) (two.2 more);
      left = λ e. of_line one.0 e (one.3 e);
      none = one.2;
    }

-- nothing was shown
none_shown : (IsLineEcho : List ℕ → Type 0) (end : PlayEnd) (why : Why) (before after seat screen : Seat) → end ≡ play.Run why → after ≡ before → screen ≡ seat → SameShown IsLineEcho end before after seat screen
none_shown IsLineEcho end why before after seat screen is one two = record {
  bytes = [];
  echo = [];
  first = λ more. subst (λ (s : Seat). Keeps (before.screen more) (s.screen more)) (sym one) (Keeps-refl (before.screen more));
  again = λ more. subst (λ (s : Seat). Keeps (seat.screen more) (s.screen more)) (sym two) (Keeps-refl (seat.screen more));
  left = λ e. absurd (let no : ◌≡◌ {A = PlayEnd} (play.Run why) play.Left = sym is ∙ e in cc);
  none = λ other. refl;
}

module _ {S : Type 0} (sectors : S → Image) (faults : S → ℕ) (one_step : OneStep) where
  -- what the law says of a session and of the same session again
  abbrev Repeated : List ℕ → List (List ℕ) → Mounted S → Mounted S → Mounted S → ℕ → ℕ → ℕ → ℕ → PlayEnd → PlayEnd → List Arrival → List Arrival → Seat → Seat → Seat → Seat → Type 0
  Repeated file words disk left there turns steps pc address end cause arrivals came before after seat screen =
      (cause ≡ end) × (steps ≡ turns) × (address ≡ pc) × AlikeDisks sectors left there × (came ≡ arrivals) × SameShown (IsEchoAfter sectors faults file words disk turns arrivals) end before after seat screen

  -- a session that the person left came to its last state
  left_in : (limit : ℕ) (start : PlayState S) (end : PlayEnd) (new : PlayState S) → PlayEnds sectors faults limit start end new → end ≡ play.Left → PlaysOn sectors faults start new
  left_in limit start end new ends is = (subst (λ (e : PlayEnd). PlayEnds sectors faults limit start e new) is ends).0

  had_memory_then : (refused : StartFault) (end : PlayEnd) → end ≡ play.Run (unstarted refused) → EndsUndisturbed end → refused ≢ fault.NoMemory
  had_memory_then refused end is calm = had_memory refused (unstarted refused) refl (subst EndsUndisturbed is calm)

  pub replayed_alike : (file : List ℕ) (words : List (List ℕ)) (disk other left there : Mounted S) (limit turns steps pc address : ℕ) (before after seat screen : Seat) (end cause : PlayEnd) (arrivals came : List Arrival) → AlikeDisks sectors disk other
      → EndsUndisturbed end → EndsUndisturbed cause → IsPlayed sectors faults file words disk limit before end turns pc left arrivals after → IsReplayed sectors faults file words other limit arrivals turns seat cause steps address there came screen
      → Repeated file words disk left there turns steps pc address end cause arrivals came before after seat screen
  replayed_alike file words disk other left there limit turns steps pc address before after seat screen end cause arrivals came disks calm quiet (inl h) (inl k) =
      let a = h.2 in
      let b = k.2 in
      let cpus : k.0 ≡ h.0 = k.3.2 ∙ sym h.3.2 in
      let memories : k.1 ≡ h.1 = k.3.3 ∙ sym h.3.3 in
      let starts : first_state k.0 k.1 other ≡ first_state h.0 h.1 other = ap (λ c. first_state c k.1 other) cpus ∙ ap (λ m. first_state h.0 m other) memories in
      let ended = replayed_well sectors faults one_step h.0 h.1 disk other disks limit turns cause b quiet (subst (λ (s : PlayState S). ReplayEnds sectors faults limit turns s cause b) starts k.4) in
      let order = bytes_in_order sectors faults file words disk left limit turns pc before after end arrivals (inl h) in
      let follows : FollowsRecord arrivals turns steps came × (cause ≡ play.Left → came ≡ arrivals) =
      (subst (λ l. FollowsRecord l turns steps came) (due_same arrivals turns order) (subst (λ n. FollowsRecord (due_from 0 arrivals) n steps came) (last_same arrivals turns order) k.12), λ e. k.13 e ∙ due_same arrivals turns order) in
      let f : FollowsRecord a.arrivals a.turns b.turns b.arrivals =
      subst (λ l. FollowsRecord a.arrivals a.turns b.turns l) k.9 (subst (λ n. FollowsRecord a.arrivals a.turns n came) k.5 (subst (λ n. FollowsRecord a.arrivals n steps came) h.5 (subst (λ l. FollowsRecord l turns steps came) h.9 follows.0))) in
      let well = played_well sectors faults one_step h.0 h.1 disk other disks limit end a calm h.4 in
      let left_then = λ (e : cause ≡ play.Left). subst (λ n. n ≤ b.turns) h.5 (ended.1 e) in
      let most = subst (λ n. n ≤ limit) h.5 h.6 in
      let both = one_end sectors faults one_step h.0 h.1 disk other disks limit end cause a b well ended.0 left_then most f in
      let same : steps ≡ turns = k.5 ∙ both.1 ∙ sym h.5 in
      let all = all_again turns arrivals came end (none_after turns arrivals end calm h.12) (subst (λ n. FollowsRecord arrivals turns n came) same follows.0) (λ e. follows.1 (both.0 ∙ e)) in
      let alike = one_alike sectors faults one_step h.0 h.1 disk other disks limit end cause a b well ended.0 left_then most f (sym k.9 ∙ all ∙ h.9) both.1 in (
        both.0,
        same,
        k.7 ∙ ap (λ (m : Machine). m.cpu.pc) both.2 ∙ sym h.7,
        subst (AlikeDisks sectors left) (sym k.8) (subst (λ (d : Mounted S). AlikeDisks sectors d b.run.system.disk) (sym h.8) both.3),
        all,
        same_shown sectors (IsEchoAfter sectors faults file words disk turns arrivals) end cause before after seat screen a b calm quiet h.11 k.10 alike
            (λ echo e is. (h.0, h.1, a, h.3, left_in limit (first_state h.0 h.1 disk) end a h.4 e, h.5, h.9, is)),
      )
  replayed_alike file words disk other left there limit turns steps pc address before after seat screen end cause arrivals came disks calm quiet (inl h) (inr k) =
      not_both file words (h.0, h.1) k.0 (had_memory_then k.0 cause k.2 quiet) h.3 k.1
  replayed_alike file words disk other left there limit turns steps pc address before after seat screen end cause arrivals came disks calm quiet (inr h) (inl k) =
      not_both file words (k.0, k.1) h.0 (had_memory_then h.0 end h.2 calm) k.3 h.1
  replayed_alike file words disk other left there limit turns steps pc address before after seat screen end cause arrivals came disks calm quiet (inr h) (inr k) =
      let refusal : k.0 ≡ h.0 = one_refusal file words h.0 k.0 (had_memory_then h.0 end h.2 calm) (had_memory_then k.0 cause k.2 quiet) h.1 k.1 in (
        k.2 ∙ ap (λ (f : StartFault). play.Run (unstarted f)) refusal ∙ sym h.2,
        k.3 ∙ sym h.3,
        k.4 ∙ sym h.4,
        subst (AlikeDisks sectors left) (sym k.5) (subst (λ d. AlikeDisks sectors d other) (sym h.5) disks),
        k.6 ∙ sym h.6,
        none_shown (IsEchoAfter sectors faults file words disk turns arrivals) end (unstarted h.0) before after seat screen h.2 h.7 k.7,
      )
