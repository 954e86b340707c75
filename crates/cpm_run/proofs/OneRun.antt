-- Two runs from states that look alike take the same steps.
use Rattle.std.proofs.Common.{◌≡◌, ◌≢◌, ◌<◌, ◌≤◌, ◌⊎◌, ◌+◌, ℕ, true, false, List, Option, Some, None, Result, Ok, Err, refl, sym, ap, subst, ◌∙◌, inl, inr, arith}
use Rattle.std.proofs.lemmas.Bool.{cases_eq, cases_lt, true≢false}
use Rattle.z80_cpu.specs.State.{Machine, machine}
use Rattle.z80_cpu.specs.Stack.{returned}
use Rattle.z80_cpu.specs.declared.registers.Cpu.{Cpu}
use Rattle.z80_machine.specs.Types.{Step}
use Rattle.z80_machine.specs.Turn.{IsStep}
use Rattle.cpm_console.specs.Dialog.{Dialog}
use Rattle.cpm_disk.specs.Calls.{Mounted}
use Rattle.cpm_disk.specs.Image.{Image}
use Rattle.cpm_disk.specs.declared.control.stop.Stop.{Stop}
use Rattle.cpm_disk.specs.declared.control.stop.Stop.TheVariants as stop
use Rattle.cpm_bdos.specs.Alike.{AlikeDialogs, AlikeDisks, AlikeSystems, HasNotFailed, SameIfKnown, seen_nothing}
use Rattle.cpm_bdos.specs.Functions.{bios_entry_of, function_of}
use Rattle.cpm_bdos.specs.System.{new_system}
use Rattle.cpm_bdos.specs.declared.outcome.After.{After}
use Rattle.cpm_bdos.specs.declared.outcome.After.TheVariants as after
use Rattle.cpm_bdos.proofs.OneCall.{one_known, one_known_entry}
use Rattle.cpm_run.specs.declared.ending.Why.{Why}
use Rattle.cpm_run.specs.declared.ending.Why.TheVariants as why
use Rattle.cpm_run.specs.declared.fault.StartFault.{StartFault}
use Rattle.cpm_run.specs.declared.fault.StartFault.TheVariants as fault
use Rattle.cpm_run.specs.Run.{IsRun, TurnsEnd, unstarted}
use Rattle.cpm_run.specs.Start.{IsStart}
use Rattle.cpm_run.specs.Turns.{Call, Comes, Entry, Goes, IsTurn, Place, Program, RunState, TurnAt, is_finished, place_at_pc, step_end}
use Rattle.cpm_run.specs.Turns.Goes.{none, more}
use Rattle.cpm_run.specs.Undisturbed.{IsUndisturbed}

-- the law that a machine has one step
abbrev pub OneStep : Type 0
OneStep = (one two : Step) (old new other : Machine) → IsStep one old new → IsStep two old other → (one ≡ two) × (new ≡ other)

-- a step does not end the run because the disk or the console failed
abbrev pub Goes_well : Option Why → Type 0
Goes_well end = (end ≢ Some (why.Stopped stop.DiskFault)) × (end ≢ Some (why.Stopped stop.ConsoleFault))

pub none_well : Goes_well None
none_well = (λ e. absurd (let no_end : ◌≡◌ {A = Option Why} None (Some (why.Stopped stop.DiskFault)) = e in cc), λ e. absurd (let no_end : ◌≡◌ {A = Option Why} None (Some (why.Stopped stop.ConsoleFault)) = e in cc))

pub some_well : (end : Why) → IsUndisturbed end → Goes_well (Some end)
some_well end calm = (λ e. calm.disk (same (why.Stopped stop.DiskFault) e), λ e. calm.console (same (why.Stopped stop.ConsoleFault) e)) where
  same : (other : Why) → ◌≡◌ {A = Option Why} (Some end) (Some other) → end ≡ other
  same other e = cc

-- what a call is followed by, as functions of its answer
comes_end : Result After Stop → Option Why
comes_end (Ok after.Return) = None
comes_end (Ok after.WarmBoot) = Some why.Finished
comes_end (Err stop) = Some (why.Stopped stop)

comes_machine : Cpu → List ℕ → Result After Stop → Machine
comes_machine cpu memory (Ok after.Return) = machine (returned memory cpu) memory
comes_machine cpu memory (Ok after.WarmBoot) = machine cpu memory
comes_machine cpu memory (Err stop) = machine cpu memory

came : (answer : Result After Stop) (cpu : Cpu) (memory : List ℕ) (end : Option Why) (new : Machine) → Comes answer cpu memory end new → (end ≡ comes_end answer) × (new ≡ comes_machine cpu memory answer)
unfolding comes_end comes_machine
came (Ok after.Return) cpu memory end new h = h
came (Ok after.WarmBoot) cpu memory end new h = h
came (Err stop) cpu memory end new h = h

came_well : (answer : Result After Stop) (end : Option Why) → end ≡ comes_end answer → Goes_well end → HasNotFailed answer
unfolding comes_end
came_well answer end is well = (λ e. well.0 (is ∙ ap comes_end e), λ e. well.1 (is ∙ ap comes_end e))

module _ {S C : Type 0} (sectors : S → Image) (faults : S → ℕ) (dialog : C → Dialog) (viewed : Option (List ℕ × List ℕ)) (one_step : OneStep) where
  pub record AlikeRuns (a b : RunState S C) : Type 0 where
    pub machine : b.machine ≡ a.machine
    pub system : AlikeSystems sectors dialog viewed a.system b.system

  -- a state with the machine of another
  abbrev with_machine : Machine → RunState S C → RunState S C
  with_machine m s = record { machine = m; system = s.system }

  turn_at : (place : Place) (a b x y : RunState S C) (o p : Option Why) → AlikeSystems sectors dialog viewed a.system b.system → Goes_well o → Goes_well p
      → TurnAt sectors faults dialog place a o x → TurnAt sectors faults dialog place (with_machine a.machine b) p y → (p ≡ o) × AlikeRuns x y
  turn_at Call a b x y o p alike well fine one two =
      let s = came one.0 one.1 one.2 o x.machine one.4 in
      let t = came two.0 two.1 two.2 p y.machine two.4 in
      let both = one_known sectors faults dialog viewed a.system b.system x.system y.system alike (function_of a.machine.cpu.main.c) a.machine.cpu one.1 two.1 a.machine.memory one.2 two.2 one.0 two.0
      (came_well one.0 o s.0 well) (came_well two.0 p t.0 fine) one.3 two.3 in (
        t.0 ∙ ap comes_end both.0 ∙ sym s.0,
        record {
          machine = t.1 ∙ ap (comes_machine two.1 two.2) both.0 ∙ ap (λ c. comes_machine c two.2 one.0) both.1 ∙ ap (λ m. comes_machine one.1 m one.0) both.2 ∙ sym s.1;
          system = both.3;
        },
      )
  turn_at (Entry n) a b x y o p alike well fine one two =
      let s = came one.0 one.1 a.machine.memory o x.machine one.3 in
      let t = came two.0 two.1 a.machine.memory p y.machine two.3 in
      let both = one_known_entry sectors faults dialog viewed a.system b.system x.system y.system alike (bios_entry_of n) n a.machine.cpu one.1 two.1 one.0 two.0
      (came_well one.0 o s.0 well) (came_well two.0 p t.0 fine) one.2 two.2 in (
        t.0 ∙ ap comes_end both.0 ∙ sym s.0,
        record {
          machine = t.1 ∙ ap (comes_machine two.1 a.machine.memory) both.0 ∙ ap (λ c. comes_machine c a.machine.memory one.0) both.1 ∙ sym s.1;
          system = both.2;
        },
      )
  turn_at Program a b x y o p alike well fine one two =
      let both = one_step one.0 two.0 a.machine x.machine y.machine one.1 two.1 in (
        two.3 ∙ ap step_end (sym both.0) ∙ sym one.3,
        record {
          machine = sym both.1;
          system = subst (AlikeSystems sectors dialog viewed x.system) (sym two.2) (subst (λ s. AlikeSystems sectors dialog viewed s b.system) (sym one.2) alike);
        },
      )

  -- a step from states that look alike
  pub one_turn : (a b x y : RunState S C) (o p : Option Why) → AlikeRuns a b → Goes_well o → Goes_well p → IsTurn sectors faults dialog a o x → IsTurn sectors faults dialog b p y → (p ≡ o) × AlikeRuns x y
  one_turn a b x y o p alike well fine one two =
      turn_at (place_at_pc a.machine.cpu.pc) a b x y o p alike.system well fine one
      (subst (λ m. IsTurn sectors faults dialog (with_machine m b) p y) alike.machine two)

  -- the last of a number of steps
  last_of : {n : ℕ} {a x : RunState S C} → Goes sectors faults dialog n a x
      → ((n ≡ 0) × (x ≡ a)) ⊎ ((m : ℕ) × (mid : RunState S C) × (n ≡ m + 1) × Goes sectors faults dialog m a mid × (is_finished mid.machine.cpu.pc ≡ false) × IsTurn sectors faults dialog mid None x)
  last_of (none s) = inl (refl, refl)
  last_of (more m old mid new before going turn) = inr (m, mid, refl, before, going, turn)

  same_steps : {n : ℕ} {a x : RunState S C} (b y : RunState S C) → AlikeRuns a b → Goes sectors faults dialog n a x → Goes sectors faults dialog n b y → AlikeRuns x y
  same_steps {x = x} b y alike (none s) two = at_start (last_of two) where
    at_start : (◌≡◌ {A = ℕ} 0 0 × (y ≡ b)) ⊎ ((m : ℕ) × (mid : RunState S C) × ◌≡◌ {A = ℕ} 0 (m + 1) × Goes sectors faults dialog m b mid × (is_finished mid.machine.cpu.pc ≡ false) × IsTurn sectors faults dialog mid None y) → AlikeRuns s y
    at_start (inl h) = subst (AlikeRuns s) (sym h.1) alike
    at_start (inr h) = absurd (let e = h.2 in omega (arith, e))
  same_steps b y alike (more m old mid new before going turn) two = after_more (λ z steps. same_steps b z alike before steps) (last_of two) where
    after_more : ((z : RunState S C) → Goes sectors faults dialog m b z → AlikeRuns mid z)
        → ((m + 1 ≡ 0) × (y ≡ b)) ⊎ ((k : ℕ) × (other : RunState S C) × (m + 1 ≡ k + 1) × Goes sectors faults dialog k b other × (is_finished other.machine.cpu.pc ≡ false) × IsTurn sectors faults dialog other None y) → AlikeRuns new y
    after_more again (inl h) = absurd (let e = h.0 in omega (arith, e))
    after_more again (inr h) =
        let e : h.0 ≡ m = let both = h.2 in omega (arith, both) in
        let mids = again h.1 (subst (λ k. Goes sectors faults dialog k b h.1) e h.3) in
        (one_turn mid h.1 new y None None mids none_well none_well turn h.5).1

  -- a state on the way
  on_the_way : {n : ℕ} {a x : RunState S C} (k : ℕ) → k < n → Goes sectors faults dialog n a x
      → (mid : RunState S C) × Goes sectors faults dialog k a mid × (is_finished mid.machine.cpu.pc ≡ false) × (next : RunState S C) × IsTurn sectors faults dialog mid None next
  on_the_way k below (none s) = absurd (omega (arith, below))
  on_the_way k below (more m old mid new before going turn) = elim (cases_eq k m) [
    | inl e ↦ (mid, subst (λ j. Goes sectors faults dialog j old mid) (sym e) before, going, new, turn)
    | inr other ↦ on_the_way k (omega (arith, below, other)) before
  ]

  -- how a run ends in a state
  abbrev Ends_in : ℕ → ℕ → RunState S C → Why → ℕ → RunState S C → Type 0
  Ends_in limit p s end turns new =
      ((is_finished s.machine.cpu.pc ≡ true) × (turns ≡ p) × (end ≡ why.Finished) × (new ≡ s))
      ⊎ (((is_finished s.machine.cpu.pc ≡ false) × (p ≡ limit) × (turns ≡ p) × (end ≡ why.TurnLimit) × (new ≡ s))
      ⊎ ((is_finished s.machine.cpu.pc ≡ false) × (p < limit) × (turns ≡ p + 1) × IsTurn sectors faults dialog s (Some end) new))

  ends_in : (limit : ℕ) (a : RunState S C) (end : Why) (turns : ℕ) (new : RunState S C) → TurnsEnd sectors faults dialog limit a end turns new
      → (p : ℕ) × (s : RunState S C) × Goes sectors faults dialog p a s × (p ≤ limit) × Ends_in limit p s end turns new
  ends_in limit a end turns new (inl h) = (turns, new, h.0, h.1, inl (h.2, refl, h.3, refl))
  ends_in limit a end turns new (inr (inl h)) = (turns, new, h.0, let e = h.1 in omega (arith, e), inr (inl (h.2, h.1, refl, h.3, refl)))
  ends_in limit a end turns new (inr (inr h)) = (h.0, h.1, h.4, let below = h.3 in omega (arith, below), inr (inr (h.5, h.3, h.2, h.6)))

  going_on : {A : Type 0} (end : Why) → ◌≡◌ {A = Option Why} None (Some end) → A
  going_on end e = absurd cc

  -- a run that ends in a state, and one that goes on from a state that looks alike
  ends_first : {A : Type 0} (limit p : ℕ) (s t new next : RunState S C) (end : Why) (turns : ℕ) → AlikeRuns s t → IsUndisturbed end → p < limit → Ends_in limit p s end turns new
      → is_finished t.machine.cpu.pc ≡ false → IsTurn sectors faults dialog t None next → A
  ends_first limit p s t new next end turns alike calm below (inl h) going turn = absurd (true≢false (sym h.0 ∙ ap (λ m. is_finished m.cpu.pc) (sym alike.machine) ∙ going))
  ends_first limit p s t new next end turns alike calm below (inr (inl h)) going turn = absurd (let e = h.1 in omega (arith, below, e))
  ends_first limit p s t new next end turns alike calm below (inr (inr h)) going turn = going_on end (one_turn s t new next (Some end) None alike (some_well end calm) none_well h.3 turn).0

  ends_second : {A : Type 0} (limit p : ℕ) (s t new next : RunState S C) (end : Why) (turns : ℕ) → AlikeRuns s t → IsUndisturbed end → p < limit → Ends_in limit p t end turns new
      → is_finished s.machine.cpu.pc ≡ false → IsTurn sectors faults dialog s None next → A
  ends_second limit p s t new next end turns alike calm below (inl h) going turn = absurd (true≢false (sym h.0 ∙ ap (λ m. is_finished m.cpu.pc) alike.machine ∙ going))
  ends_second limit p s t new next end turns alike calm below (inr (inl h)) going turn = absurd (let e = h.1 in omega (arith, below, e))
  ends_second limit p s t new next end turns alike calm below (inr (inr h)) going turn = going_on end (sym (one_turn s t next new None (Some end) alike none_well (some_well end calm) turn h.3).0)

  abbrev OneRun : Why → Why → ℕ → ℕ → RunState S C → RunState S C → Type 0
  OneRun end cause turns steps new there = (cause ≡ end) × (steps ≡ turns) × AlikeRuns new there

  some_same : (end cause : Why) → ◌≡◌ {A = Option Why} (Some cause) (Some end) → cause ≡ end
  some_same end cause e = cc

  alike_runs : (s t new there : RunState S C) → new ≡ s → there ≡ t → AlikeRuns s t → AlikeRuns new there
  alike_runs s t new there p q alike = subst (AlikeRuns new) (sym q) (subst (λ r. AlikeRuns r t) (sym p) alike)

  end_together : (limit p : ℕ) (s t new there : RunState S C) (end cause : Why) (turns steps : ℕ) → AlikeRuns s t → IsUndisturbed end → IsUndisturbed cause
      → Ends_in limit p s end turns new → Ends_in limit p t cause steps there → OneRun end cause turns steps new there
  end_together limit p s t new there end cause turns steps alike calm quiet (inl h) (inl k) = (k.2 ∙ sym h.2, k.1 ∙ sym h.1, alike_runs s t new there h.3 k.3 alike)
  end_together limit p s t new there end cause turns steps alike calm quiet (inl h) (inr (inl k)) = absurd (true≢false (sym h.0 ∙ ap (λ m. is_finished m.cpu.pc) (sym alike.machine) ∙ k.0))
  end_together limit p s t new there end cause turns steps alike calm quiet (inl h) (inr (inr k)) = absurd (true≢false (sym h.0 ∙ ap (λ m. is_finished m.cpu.pc) (sym alike.machine) ∙ k.0))
  end_together limit p s t new there end cause turns steps alike calm quiet (inr (inl h)) (inl k) = absurd (true≢false (sym k.0 ∙ ap (λ m. is_finished m.cpu.pc) alike.machine ∙ h.0))
  end_together limit p s t new there end cause turns steps alike calm quiet (inr (inr h)) (inl k) = absurd (true≢false (sym k.0 ∙ ap (λ m. is_finished m.cpu.pc) alike.machine ∙ h.0))
  end_together limit p s t new there end cause turns steps alike calm quiet (inr (inl h)) (inr (inl k)) = (k.3 ∙ sym h.3, k.2 ∙ sym h.2, alike_runs s t new there h.4 k.4 alike)
  end_together limit p s t new there end cause turns steps alike calm quiet (inr (inl h)) (inr (inr k)) = absurd (let e = h.1 in let below = k.1 in omega (arith, e, below))
  end_together limit p s t new there end cause turns steps alike calm quiet (inr (inr h)) (inr (inl k)) = absurd (let e = k.1 in let below = h.1 in omega (arith, e, below))
  end_together limit p s t new there end cause turns steps alike calm quiet (inr (inr h)) (inr (inr k)) =
      let both = one_turn s t new there (Some end) (Some cause) alike (some_well end calm) (some_well cause quiet) h.3 k.3 in
      (some_same end cause both.0, k.2 ∙ sym h.2, both.1)

  one_end : (limit : ℕ) (a b new there : RunState S C) (end cause : Why) (turns steps : ℕ) → AlikeRuns a b → IsUndisturbed end → IsUndisturbed cause
      → TurnsEnd sectors faults dialog limit a end turns new → TurnsEnd sectors faults dialog limit b cause steps there → OneRun end cause turns steps new there
  one_end limit a b new there end cause turns steps alike calm quiet one two = by_order (ends_in limit a end turns new one) (ends_in limit b cause steps there two) where
    by_order : ((p : ℕ) × (s : RunState S C) × Goes sectors faults dialog p a s × (p ≤ limit) × Ends_in limit p s end turns new)
        → ((p : ℕ) × (s : RunState S C) × Goes sectors faults dialog p b s × (p ≤ limit) × Ends_in limit p s cause steps there) → OneRun end cause turns steps new there
    by_order h k = elim (cases_lt h.0 k.0) [
      | inl sooner ↦
          let mid = on_the_way h.0 sooner k.2 in
          ends_first limit h.0 h.1 mid.0 new mid.3 end turns (same_steps b mid.0 alike h.2 mid.1) calm (let room = k.3 in omega (arith, sooner, room)) h.4 mid.2 mid.4
      | inr later ↦ elim (cases_eq h.0 k.0) [
        | inl e ↦ end_together limit k.0 h.1 k.1 new there end cause turns steps (same_steps b k.1 alike (subst (λ n. Goes sectors faults dialog n a h.1) e h.2) k.2) calm quiet (subst (λ n. Ends_in limit n h.1 end turns new) e h.4) k.4
        | inr other ↦
            let sooner : k.0 < h.0 = omega (arith, later, other) in
            let mid = on_the_way k.0 sooner h.2 in
            ends_second limit k.0 mid.0 k.1 there mid.3 cause steps (same_steps b k.1 alike mid.1 k.2) quiet (let room = h.3 in omega (arith, sooner, room)) k.4 mid.2 mid.4
      ]
    ]

-- a start has one answer, unless memory ran out
pub one_refusal : (file : List ℕ) (words : List (List ℕ)) (refused other : StartFault) → refused ≢ fault.NoMemory → other ≢ fault.NoMemory → IsStart file words (Err refused) → IsStart file words (Err other) → other ≡ refused
one_refusal file words fault.ComTooLong fault.ComTooLong good fine one two = refl
one_refusal file words fault.ComTooLong fault.TailTooLong good fine one two = absurd (let short = two.0 in omega (arith, one, short))
one_refusal file words fault.TailTooLong fault.ComTooLong good fine one two = absurd (let short = one.0 in omega (arith, two, short))
one_refusal file words fault.TailTooLong fault.TailTooLong good fine one two = refl
one_refusal file words fault.NoMemory other good fine one two = absurd (good refl)
one_refusal file words fault.ComTooLong fault.NoMemory good fine one two = absurd (fine refl)
one_refusal file words fault.TailTooLong fault.NoMemory good fine one two = absurd (fine refl)

pub not_both : {A : Type 0} (file : List ℕ) (words : List (List ℕ)) (start : Cpu × List ℕ) (refused : StartFault) → refused ≢ fault.NoMemory → IsStart file words (Ok start) → IsStart file words (Err refused) → A
not_both file words start fault.ComTooLong good one two = absurd (let short = one.0 in omega (arith, two, short))
not_both file words start fault.TailTooLong good one two = absurd (let short = one.1 in let long = two.1 in omega (arith, long, short))
not_both file words start fault.NoMemory good one two = absurd (good refl)

pub had_memory : (refused : StartFault) (end : Why) → end ≡ unstarted refused → IsUndisturbed end → refused ≢ fault.NoMemory
had_memory refused end is calm e = calm.memory (is ∙ ap unstarted e)

module _ {S C : Type 0} (sectors : S → Image) (faults : S → ℕ) (dialog : C → Dialog) (one_step : OneStep) where
  known_alike : (output : Option (List ℕ)) → SameIfKnown (seen_nothing output) output output
  known_alike None = tt
  known_alike (Some bytes) = (bytes, bytes, refl, refl, refl)

  dialogs : (a b : Dialog) → b ≡ a → AlikeDialogs (seen_nothing a.output) a b
  dialogs a b e = subst (AlikeDialogs (seen_nothing a.output) a) (sym e) (record { input = refl; output = known_alike a.output; faults = refl })

  pub one_run : (file : List ℕ) (words : List (List ℕ)) (disk other left there : Mounted S) (console second kept held : C) (limit turns steps pc address : ℕ) (end cause : Why) → AlikeDisks sectors disk other → dialog second ≡ dialog console
      → IsUndisturbed end → IsUndisturbed cause
      → IsRun sectors faults dialog file words disk console limit end turns pc left kept → IsRun sectors faults dialog file words other second limit cause steps address there held
      → (cause ≡ end) × (steps ≡ turns) × (address ≡ pc) × AlikeDisks sectors left there × AlikeDialogs (seen_nothing (dialog console).output) (dialog kept) (dialog held)
  one_run file words disk other left there console second kept held limit turns steps pc address end cause disks same calm quiet (inl h) (inl k) =
      let viewed = seen_nothing (dialog console).output in
      let cpus : k.0 ≡ h.0 = k.3.2 ∙ sym h.3.2 in
      let memories : k.1 ≡ h.1 = k.3.3 ∙ sym h.3.3 in
      let start : RunState S C = record { machine = machine h.0 h.1; system = new_system disk console } in
      let beginning : RunState S C = record { machine = machine k.0 k.1; system = new_system other second } in
      let alike : AlikeRuns sectors faults dialog viewed one_step start beginning = record {
        machine = ap (λ c. machine c k.1) cpus ∙ ap (machine h.0) memories;
        system = record { disk = disks; screen = record { dialog = dialogs (dialog console) (dialog second) same; column = refl }; dma = refl; user = refl; search = refl; within = omega arith };
      } in
      let both = one_end sectors faults dialog viewed one_step limit start beginning h.2 k.2 end cause turns steps alike calm quiet h.4 k.4 in (
        both.0,
        both.1,
        k.5 ∙ ap (λ m. m.cpu.pc) both.2.machine ∙ sym h.5,
        subst (AlikeDisks sectors left) (sym k.6) (subst (λ d. AlikeDisks sectors d k.2.system.disk) (sym h.6) both.2.system.disk),
        subst (λ c. AlikeDialogs viewed (dialog kept) (dialog c)) (sym k.7) (subst (λ c. AlikeDialogs viewed (dialog c) (dialog k.2.system.terminal.console)) (sym h.7) both.2.system.screen.dialog),
      )
  one_run file words disk other left there console second kept held limit turns steps pc address end cause disks same calm quiet (inl h) (inr k) =
      not_both file words (h.0, h.1) k.0 (had_memory k.0 cause k.2 quiet) h.3 k.1
  one_run file words disk other left there console second kept held limit turns steps pc address end cause disks same calm quiet (inr h) (inl k) =
      not_both file words (k.0, k.1) h.0 (had_memory h.0 end h.2 calm) k.3 h.1
  one_run file words disk other left there console second kept held limit turns steps pc address end cause disks same calm quiet (inr h) (inr k) =
      let refusal : k.0 ≡ h.0 = one_refusal file words h.0 k.0 (had_memory h.0 end h.2 calm) (had_memory k.0 cause k.2 quiet) h.1 k.1 in (
        k.2 ∙ ap unstarted refusal ∙ sym h.2,
        k.3 ∙ sym h.3,
        k.4 ∙ sym h.4,
        subst (AlikeDisks sectors left) (sym k.5) (subst (λ d. AlikeDisks sectors d other) (sym h.5) disks),
        subst (λ c. AlikeDialogs (seen_nothing (dialog console).output) (dialog kept) (dialog c)) (sym k.6) (subst (λ c. AlikeDialogs (seen_nothing (dialog console).output) (dialog c) (dialog second)) (sym h.6) (dialogs (dialog console) (dialog second) same)),
      )
