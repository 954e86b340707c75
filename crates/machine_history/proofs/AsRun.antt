-- The points of a debugged run are those of a run with a limit.
use Rattle.std.proofs.Common.{◌≡◌, ℕ, ◌+◌, [], Bool, true, false, List, Option, Some, None, drop, length, refl, sym, subst, ap, ◌∙◌, inl, inr, arith}
use Rattle.std.specs.Prelude.{if◌then◌else◌}
use Rattle.cpm_run.specs.declared.ending.Why.{Why}
use Rattle.cpm_run.specs.declared.ending.Why.TheVariants as why
use Rattle.cpm_run.specs.Run.{TurnsEnd}
use Rattle.cpm_run.specs.Turns.{Goes, RunState, is_finished}
use Rattle.cpm_run.specs.Turns.Goes.{none as no_steps, more as one_more}
use Rattle.cpm_run.specs.declared.arriving.Arrival.{Arrival}
use Rattle.cpm_console.specs.Dialog.{Dialog}
use Rattle.cpm_disk.specs.Image.{Image}
use Rattle.machine_history.specs.Coming.{due}
use Rattle.machine_history.specs.Walk.{IsAfter, LeadsBy, Point, MemoryState, MakesTurn, due_in, end_after, first_point, limit_end, never, run_of}
use Rattle.machine_history.specs.Walk.LeadsBy.{none, more}
use Rattle.machine_history.proofs.Turning.{Steps, typed_nothing}

abbrev Goes_on : ℕ → MemoryState → MemoryState → Type 0
Goes_on n old new = Goes (λ image. image) (λ image. 0) (λ dialog. dialog) n (run_of old) (run_of new)

abbrev Ends : ℕ → MemoryState → Why → MemoryState → Type 0
Ends n start end new = TurnsEnd (λ image. image) (λ image. 0) (λ dialog. dialog) n (run_of start) end n (run_of new)

-- one turn, if no bytes are to come: a step of the program
plain : (old new : MemoryState) (end : Option Why) → old.coming ≡ [] → MakesTurn old end new → Steps (run_of old) end (run_of new) × (new.coming ≡ [])
plain old new end empty (inl h) =
    let nothing : due_in old ≡ [] = ap (due old.turns) empty in (
      subst (λ (r : RunState Image Dialog). Steps r end (run_of new)) (typed_nothing old (due_in old) nothing) h.step,
      h.coming ∙ ap (λ (l : List Arrival). drop (length (due old.turns l)) l) empty,
    )
plain old new end empty (inr h) = absurd (h.0 (ap (due old.turns) empty))

-- a run that has not ended in a state has not finished there
still : (b : Bool) → ◌≡◌ {A = Option Why} (if b then Some why.Finished else None) None → b ≡ false
still true e = absurd (let same : ◌≡◌ {A = Option Why} (Some why.Finished) None = e in cc)
still false e = refl

-- no turn has ended the run
pub unended : (by : Option Why) (s : MemoryState) → end_after by s ≡ None → (by ≡ None) × (is_finished s.machine.cpu.pc ≡ false)
unended None s e = (refl, still (is_finished s.machine.cpu.pc) e)
unended (Some end) s e = absurd (let same : ◌≡◌ {A = Option Why} (Some end) None = e in cc)

-- what is known of the point after n turns: no bytes are to come, and whether the run goes on there
goes : (start : MemoryState) (n : ℕ) (old p : Point) → start.coming ≡ [] → old ≡ first_point start → LeadsBy never n old p → p.end ≡ None
    → Goes_on n start p.state × (is_finished p.state.machine.cpu.pc ≡ false) × (p.state.coming ≡ [])
goes start n old p empty e (none q) going =
    let same : q.state ≡ start = ap (λ (r : Point). r.state) e in
    let ends : q.end ≡ end_after None start = ap (λ (r : Point). r.end) e in
    let not_yet = (unended None start (sym ends ∙ going)).1 in
    subst (λ (s : MemoryState). Goes_on 0 start s × (is_finished s.machine.cpu.pc ≡ false) × (s.coming ≡ [])) (sym same) (no_steps (run_of start), not_yet, empty)
goes start n old p empty e (more m q last new leads next test) going =
    let before = goes start m q last empty e leads next.goes in
    let now = unended next.by new.state (sym next.ends ∙ going) in
    let turn = plain last.state new.state None before.2 (subst (λ (o : Option Why). MakesTurn last.state o new.state) now.0 next.turns) in
    (one_more m (run_of start) (run_of last.state) (run_of new.state) before.0 before.1 turn.0, now.1, turn.1)

-- the end of a run after some steps, by whether the program has finished
by_state : (start : MemoryState) (n : ℕ) (s : MemoryState) (b : Bool) → b ≡ is_finished s.machine.cpu.pc → Goes_on n start s → Ends n start (limit_end (if b then Some why.Finished else None)) s
by_state start n s true e steps = inl (steps, omega arith, sym e, refl)
by_state start n s false e steps = inr (inl (steps, refl, sym e, refl))

-- one turn more, by whether it ends the run
by_turn : (start : MemoryState) (m : ℕ) (last new : MemoryState) (by : Option Why) → Goes_on m start last → is_finished last.machine.cpu.pc ≡ false → Steps (run_of last) by (run_of new) → Ends (m + 1) start (limit_end (end_after by new)) new
by_turn start m last new None steps going turn = by_state start (m + 1) new (is_finished new.machine.cpu.pc) refl (one_more m (run_of start) (run_of last) (run_of new) steps going turn)
by_turn start m last new (Some end) steps going turn = inr (inr (m, run_of last, refl, omega arith, steps, going, turn))

ends : (start : MemoryState) (n : ℕ) (old p : Point) → start.coming ≡ [] → old ≡ first_point start → LeadsBy never n old p → Ends n start (limit_end p.end) p.state
ends start n old p empty e (none q) =
    let same : q.state ≡ start = ap (λ (r : Point). r.state) e in
    let now : q.end ≡ end_after None start = ap (λ (r : Point). r.end) e in
    subst (λ (s : MemoryState). Ends 0 start (limit_end q.end) s) (sym same)
    (subst (λ (o : Option Why). Ends 0 start (limit_end o) start) (sym now) (by_state start 0 start (is_finished start.machine.cpu.pc) refl (no_steps (run_of start))))
ends start n old p empty e (more m q last new leads next test) =
    let before = goes start m q last empty e leads next.goes in
    subst (λ (o : Option Why). Ends (m + 1) start (limit_end o) new.state) (sym next.ends) (by_turn start m last.state new.state next.by before.0 before.1 (plain last.state new.state next.by before.2 next.turns).0)

pub as_run : (start : MemoryState) (n : ℕ) (p : Point) → start.coming ≡ [] → IsAfter start n p → Ends n start (limit_end p.end) p.state
as_run start n p empty after = ends start n (first_point start) p empty refl after
