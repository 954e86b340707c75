-- The points of a run to which the bytes of a record come are those of a session.
use Rattle.std.proofs.Common.{◌≡◌, ◌+◌, ◌++◌, [], ℕ, Bool, true, false, List, Option, Some, None, Ok, drop, length, refl, sym, ap, subst, ◌∙◌, append_assoc, arith, inl, inr}
use Rattle.std.specs.Prelude.{if◌then◌else◌, map}
use Rattle.z80_cpu.specs.State.{machine}
use Rattle.z80_cpu.specs.declared.registers.Cpu.{Cpu}
use Rattle.cpm_bdos.specs.System.{new_system}
use Rattle.cpm_console.specs.Dialog.{Dialog, dialog_of}
use Rattle.cpm_disk.specs.Calls.{Mounted}
use Rattle.cpm_disk.specs.Image.{Image}
use Rattle.cpm_run.specs.Play.{IsInOrder, PlayState, PlayedRunEnds, PlaysOn, first_state}
use Rattle.cpm_run.specs.Play.PlaysOn.{same, goes, came}
use Rattle.cpm_run.specs.Start.{IsStart}
use Rattle.cpm_run.specs.Turns.{RunState, is_finished}
use Rattle.cpm_run.specs.Turns.Goes.{none as no_steps, more as one_more}
use Rattle.cpm_run.specs.declared.arriving.Arrival.{Arrival}
use Rattle.cpm_run.specs.declared.ending.Why.{Why}
use Rattle.cpm_run.specs.declared.ending.Why.TheVariants as why
use Rattle.machine_history.specs.Alike.{IsCalm}
use Rattle.machine_history.specs.Coming.{came_before}
use Rattle.machine_history.specs.Going.{IsFirstShown}
use Rattle.machine_history.specs.Walk.{IsAfter, LeadsBy, MakesTurn, MemoryState, Point, Shown, TypesAndSteps, due_in, end_after, first_point, limit_end, never, run_of, with_typed}
use Rattle.machine_history.specs.Walk.LeadsBy.{none, more}
use Rattle.machine_history.proofs.AsRun.{unended}
use Rattle.machine_history.proofs.Going.{counted}
use Rattle.machine_history.proofs.Recordings.{Below, Rising, all_before, below_both, below_more, due_now, rising, split}

-- a session in which these bytes have come, and nothing was shown
abbrev session : ℕ → List Arrival → RunState Image Dialog → PlayState Image
session n arrivals run = record { run = run; turns = n; arrivals = arrivals; shown = [] }

module _ (cpu : Cpu) (memory : List ℕ) (disk : Mounted Image) (recorded : List Arrival) where
  abbrev start : MemoryState
  start = record { machine = machine cpu memory; system = new_system disk (dialog_of [] (Some []) 0); turns = 0; coming = recorded }

  abbrev first : PlayState Image
  first = first_state cpu memory disk

  abbrev Plays : PlayState Image → Type 0
  Plays s = PlaysOn (λ image. image) (λ image. 0) first s

  abbrev Ends : ℕ → Why → PlayState Image → Type 0
  Ends n end s = PlayedRunEnds (λ image. image) (λ image. 0) n first end s

  -- a state from which the run goes on: the bytes that have come, and those that are still to come
  record Follows (s : MemoryState) : Type 0 where
    front : List Arrival
    whole : front ++ s.coming ≡ recorded
    below : Below s.turns front
    rising : Rising s.turns s.coming
    plays : Plays (session s.turns front (run_of s))
    going : is_finished s.machine.cpu.pc ≡ false

  -- the same when the bytes that are due have been typed
  record HasCome (s : MemoryState) : Type 0 where
    front : List Arrival
    whole : front ++ drop (length (due_in s)) s.coming ≡ recorded
    below : Below (s.turns + 1) front
    rising : Rising (s.turns + 1) (drop (length (due_in s)) s.coming)
    plays : Plays (session s.turns front (with_typed (due_in s) s))

  typed : (s : MemoryState) → Follows s → HasCome s
  typed s f =
      let now = due_now s.turns s.coming f.rising in
      let rest = drop (length (due_in s)) s.coming in
      record {
        front = f.front ++ due_in s;
        whole = append_assoc f.front (due_in s) rest ∙ ap (λ l. f.front ++ l) (split s.turns s.coming) ∙ f.whole;
        below = below_both (s.turns + 1) f.front (due_in s) (below_more s.turns (s.turns + 1) f.front (omega arith) f.below) now.1;
        rising = now.2;
        plays = subst (λ (l : List Arrival). Plays (session s.turns (f.front ++ l) (with_typed (due_in s) s))) now.0 (came (map (λ arrival. arrival.byte) (due_in s)) first (session s.turns f.front (run_of s)) f.plays);
      }

  -- one turn more
  stepped : (old new : MemoryState) (f : Follows old) → TypesAndSteps old None new → Plays (session (old.turns + 1) (typed old f).front (run_of new))
  stepped old new f h =
      let t = typed old f in
      let mid = with_typed (due_in old) old in
      goes 1 first (session old.turns t.front mid) (run_of new) t.plays (one_more 0 mid mid (run_of new) (no_steps mid) f.going h.step)

  follows_more : (old new : MemoryState) (f : Follows old) → TypesAndSteps old None new → is_finished new.machine.cpu.pc ≡ false → Follows new
  follows_more old new f h going =
      let t = typed old f in
      record {
        front = t.front;
        whole = ap (λ l. t.front ++ l) h.coming ∙ t.whole;
        below = subst (λ (k : ℕ). Below k t.front) (sym h.turns) t.below;
        rising = subst (λ (l : List Arrival). Rising new.turns l) (sym h.coming) (subst (λ (k : ℕ). Rising k (drop (length (due_in old)) old.coming)) (sym h.turns) t.rising);
        plays = subst (λ (k : ℕ). Plays (session k t.front (run_of new))) (sym h.turns) (stepped old new f h);
        going = going;
      }

  follows_turn : (old new : MemoryState) (by end : Option Why) → end ≡ end_after by new → end ≡ None → Follows old → MakesTurn old by new → Follows new
  follows_turn old new by end is goes_on f (inl h) =
      let now = unended by new (sym is ∙ goes_on) in
      follows_more old new f (subst (λ (o : Option Why). TypesAndSteps old o new) now.0 h) now.1
  follows_turn old new by end is goes_on f (inr h) =
      absurd (let no : ◌≡◌ {A = Option Why} None (Some why.NoMemory) = sym goes_on ∙ is ∙ ap (λ (o : Option Why). end_after o new) h.1 in cc)

  -- ---- how it ends

  by_state : (n : ℕ) (s : PlayState Image) (b : Bool) → b ≡ is_finished s.run.machine.cpu.pc → Plays s → s.turns ≡ n → Ends n (limit_end (if b then Some why.Finished else None)) s
  by_state n s true e plays turns = inl (plays, sym e, refl)
  by_state n s false e plays turns = inr (inl (plays, turns, sym e, refl))

  by_turn : (old new : MemoryState) (by : Option Why) (f : Follows old) → TypesAndSteps old by new → Ends (old.turns + 1) (limit_end (end_after by new)) (session (old.turns + 1) (typed old f).front (run_of new))
  by_turn old new None f h = by_state (old.turns + 1) (session (old.turns + 1) (typed old f).front (run_of new)) (is_finished new.machine.cpu.pc) refl (stepped old new f h) refl
  by_turn old new (Some end) f h = inr (inr (session old.turns (typed old f).front (with_typed (due_in old) old), (typed old f).plays, f.going, h.step, refl, refl, refl))

  -- the bytes that have come are those that were to come before
  front_is : (s : MemoryState) (t : HasCome s) → t.front ≡ came_before (s.turns + 1) recorded
  front_is s t = sym (ap (came_before (s.turns + 1)) (sym t.whole) ∙ all_before (s.turns + 1) t.front (drop (length (due_in s)) s.coming) t.below t.rising)

  abbrev EndsAt : ℕ → Why → MemoryState → Type 0
  EndsAt n end s = Ends n end (session n (came_before n recorded) (run_of s))

  ended_by : (m : ℕ) (old new : MemoryState) (by end : Option Why) → end ≡ end_after by new → ◌≡◌ {A = ℕ} old.turns m → IsCalm (record { state = new; end = end }) → Follows old → MakesTurn old by new → EndsAt (m + 1) (limit_end end) new
  ended_by m old new by end is number calm f (inl h) =
      subst (λ (o : Option Why). EndsAt (m + 1) (limit_end o) new) (sym is)
      (subst (λ (k : ℕ). EndsAt (k + 1) (limit_end (end_after by new)) new) number
      (subst (λ (l : List Arrival). Ends (old.turns + 1) (limit_end (end_after by new)) (session (old.turns + 1) l (run_of new))) (front_is old (typed old f)) (by_turn old new by f h)))
  ended_by m old new by end is number calm f (inr h) = absurd (calm.memory (ap limit_end (is ∙ ap (λ (o : Option Why). end_after o new) h.1)))

  module _ (order : Rising 0 recorded) where
    begins : is_finished start.machine.cpu.pc ≡ false → Follows start
    begins going = record { front = []; whole = refl; below = tt; rising = order; plays = same first; going = going }

    follows : (n : ℕ) (old p : Point) → old ≡ first_point start → LeadsBy never n old p → p.end ≡ None → Follows p.state
    follows n old p e (none q) going =
        let state : q.state ≡ start = ap (λ (r : Point). r.state) e in
        let end : q.end ≡ end_after None start = ap (λ (r : Point). r.end) e in
        subst Follows (sym state) (begins (unended None start (sym end ∙ going)).1)
    follows n old p e (more m q last new leads next test) going =
        follows_turn last.state new.state next.by new.end next.ends going (follows m q last e leads next.goes) next.turns

    ends : (n : ℕ) (old p : Point) → old ≡ first_point start → LeadsBy never n old p → IsCalm p → EndsAt n (limit_end p.end) p.state
    ends n old p e (none q) calm =
        let state : q.state ≡ start = ap (λ (r : Point). r.state) e in
        let end : q.end ≡ end_after None start = ap (λ (r : Point). r.end) e in
        subst (λ (s : MemoryState). EndsAt 0 (limit_end q.end) s) (sym state)
        (subst (λ (o : Option Why). EndsAt 0 (limit_end o) start) (sym end)
        (subst (λ (l : List Arrival). Ends 0 (limit_end (end_after None start)) (session 0 l (run_of start))) (sym (all_before 0 [] recorded tt order)) (by_state 0 first (is_finished start.machine.cpu.pc) refl (same first) refl)))
    ends n old p e (more m q last new leads next test) calm =
        let number : last.state.turns ≡ m = let sum = counted never leads next.goes in let from : q.state.turns ≡ 0 = ap (λ (r : Point). r.state.turns) e in omega (arith, sum, from) in
        ended_by m last.state new.state next.by new.end next.ends number calm (follows m q last e leads next.goes) next.turns

pub is_session : (file : List ℕ) (words : List (List ℕ)) (disk : Mounted Image) (recorded : List Arrival) (last : ℕ) (shown : Shown) (n : ℕ) (p : Point) →
    IsFirstShown file words disk (dialog_of [] (Some []) 0) recorded shown → IsInOrder recorded last → IsCalm p → IsAfter shown.start n p
    → (cpu : Cpu) × (memory : List ℕ) × IsStart file words (Ok (cpu, memory))
    × PlayedRunEnds (λ image. image) (λ image. 0) n (first_state cpu memory disk) (limit_end p.end) (record { run = run_of p.state; turns = n; arrivals = came_before n recorded; shown = [] })
is_session file words disk recorded last shown n p begun order calm after = (
  begun.0,
  begun.1,
  begun.2,
  ends begun.0 begun.1 disk recorded (rising 0 recorded (λ k one there. omega arith) order.rising) n (first_point (start begun.0 begun.1 disk recorded)) p refl
      (subst (λ (s : MemoryState). IsAfter s n p) begun.3 after) calm,
)
