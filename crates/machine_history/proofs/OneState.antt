-- A run has one state after each number of turns, as far as anybody can see it.
use Rattle.std.proofs.Common.{◌≡◌, ◌≢◌, ◌+◌, ◌++◌, ◌<◌, ◌⊎◌, ℕ, Bool, false, List, [], Option, Some, None, drop, length, refl, sym, ap, subst, ◌∙◌, inl, inr, arith}
use Rattle.std.specs.Prelude.{if◌then◌else◌, map}
use Rattle.std.proofs.lemmas.Bool.{cases_eq, cases_lt}
use Rattle.z80_cpu.specs.State.{Machine, machine}
use Rattle.cpm_bdos.specs.Alike.{AlikeDisks}
use Rattle.cpm_bdos.specs.System.{new_system}
use Rattle.cpm_console.specs.Dialog.{Dialog, dialog_of}
use Rattle.cpm_disk.specs.Calls.{Mounted}
use Rattle.cpm_disk.specs.Image.{Image}
use Rattle.cpm_disk.specs.declared.control.stop.Stop.TheVariants as stop
use Rattle.cpm_run.proofs.OneRun.{AlikeRuns, OneStep, one_turn as one_run_turn}
use Rattle.cpm_run.specs.Turns.{is_finished}
use Rattle.cpm_run.specs.Undisturbed.{IsUndisturbed}
use Rattle.cpm_run.specs.declared.arriving.Arrival.{Arrival}
use Rattle.cpm_run.specs.declared.ending.Why.{Why}
use Rattle.cpm_run.specs.declared.ending.Why.TheVariants as why
use Rattle.machine_history.specs.Alike.{AlikePoints, AlikeStates, IsCalm, ShowsRun}
use Rattle.machine_history.specs.Coming.{due}
use Rattle.machine_history.specs.Going.{IsFirstShown, ShowsTurn}
use Rattle.machine_history.specs.Walk.{IsAfter, IsNextPoint, IsTrue_of_run, LeadsBy, MakesTurn, MemoryState, Point, Shown, due_in, end_after, first_point, limit_end, never, run_of, with_typed}
use Rattle.machine_history.specs.Walk.LeadsBy.{none, more}

-- ---- one turn

-- a turn or a run does not end because the disk or the console failed, or because memory ran out
abbrev pub Goes_well : Option Why → Type 0
Goes_well end = (end ≢ Some (why.Stopped stop.DiskFault)) × (end ≢ Some (why.Stopped stop.ConsoleFault)) × (end ≢ Some why.NoMemory)

pub calm_well : (end : Option Why) → IsUndisturbed (limit_end end) → Goes_well end
calm_well end calm = (λ e. calm.disk (ap limit_end e), λ e. calm.console (ap limit_end e), λ e. calm.memory (ap limit_end e))

none_is_not : (end : Option Why) (why : Why) → end ≡ None → end ≢ Some why
none_is_not end why e f = absurd (let no_end : ◌≡◌ {A = Option Why} None (Some why) = sym e ∙ f in cc)

pub none_well : (end : Option Why) → end ≡ None → Goes_well end
none_well end e = (none_is_not end (why.Stopped stop.DiskFault) e, none_is_not end (why.Stopped stop.ConsoleFault) e, none_is_not end why.NoMemory e)

turn_well : (by end : Option Why) (s : MemoryState) → end ≡ end_after by s → Goes_well end → Goes_well by
turn_well by end s is well = (
  λ e. well.0 (is ∙ ap (λ o. end_after o s) e),
  λ e. well.1 (is ∙ ap (λ o. end_after o s) e),
  λ e. well.2 (is ∙ ap (λ o. end_after o s) e),
)

abbrev image_is : Image → Image
image_is image = image

abbrev no_faults : Image → ℕ
no_faults image = 0

abbrev dialog_is : Dialog → Dialog
dialog_is dialog = dialog

-- a state with the machine of another
abbrev pub with_machine : Machine → MemoryState → MemoryState
with_machine m s = record s { machine = m }

-- the same bytes are due
due_alike : (printed : List ℕ) (a b : MemoryState) → AlikeStates printed a b → due_in b ≡ due_in a
due_alike printed a b alike = ap (λ (n : ℕ). due n b.coming) alike.turns ∙ ap (due a.turns) alike.coming

-- and they are typed
typed_alike : (one_step : OneStep) (printed : List ℕ) (a b : MemoryState) → AlikeStates printed a b
    → AlikeRuns image_is no_faults dialog_is (Some (printed, printed)) one_step (with_typed (due_in a) a) (with_typed (due_in b) b)
typed_alike one_step printed a b alike =
    let system = alike.system in
    let dialog = system.screen.dialog in
    let input = a.system.terminal.console.input in
    let typed : List ℕ = map (λ arrival. arrival.byte) (due_in b) in
    record {
      machine = alike.machine;
      system = record {
        disk = system.disk;
        screen = record {
          dialog = record {
            input = ap (λ (l : List ℕ). l ++ typed) dialog.input ∙ ap (λ (l : List Arrival). input ++ map (λ arrival. arrival.byte) l) (due_alike printed a b alike);
            output = dialog.output;
            faults = dialog.faults;
          };
          column = system.screen.column;
        };
        dma = system.dma;
        user = system.user;
        search = system.search;
        within = system.within;
      };
    }

-- a turn from states that look alike
one_turn : OneStep → (printed : List ℕ) (a b x y : MemoryState) (o p : Option Why) → AlikeStates printed a b → Goes_well o → Goes_well p → MakesTurn a o x → MakesTurn b p y → (p ≡ o) × AlikeStates printed x y
one_turn one_step printed a b x y o p alike well fine (inl h) (inl k) =
    let both = one_run_turn image_is no_faults dialog_is (Some (printed, printed)) one_step (with_typed (due_in a) a) (with_typed (due_in b) b) (run_of x) (run_of y) o p (typed_alike one_step printed a b alike) (well.0, well.1) (fine.0, fine.1) h.step k.step in
    let dues = due_alike printed a b alike in (
      both.0,
      record {
        machine = both.1.machine;
        system = both.1.system;
        turns = k.turns ∙ ap (λ (n : ℕ). n + 1) alike.turns ∙ sym h.turns;
        coming = k.coming ∙ ap (λ (l : List Arrival). drop (length l) b.coming) dues ∙ ap (λ (l : List Arrival). drop (length (due_in a)) l) alike.coming ∙ sym h.coming;
      },
    )
one_turn one_step printed a b x y o p alike well fine (inl h) (inr k) = absurd (fine.2 k.1)
one_turn one_step printed a b x y o p alike well fine (inr h) two = absurd (well.2 h.1)

same_end : (by : Option Why) (s t : MemoryState) → t.machine ≡ s.machine → end_after by t ≡ end_after by s
same_end (Some end) s t e = refl
same_end None s t e = ap (λ (m : Machine). if is_finished m.cpu.pc then Some why.Finished else None) e

pub one_next : OneStep → (printed : List ℕ) (a b x y : Point) → AlikeStates printed a.state b.state → Goes_well x.end → Goes_well y.end → IsNextPoint a x → IsNextPoint b y → AlikePoints printed x y
one_next one_step printed a b x y alike well fine one two =
    let both = one_turn one_step printed a.state b.state x.state y.state one.by two.by alike (turn_well one.by x.end x.state one.ends well) (turn_well two.by y.end y.state two.ends fine) one.turns two.turns in
    record {
      states = both.1;
      ends = two.ends ∙ ap (λ o. end_after o y.state) both.0 ∙ same_end one.by x.state y.state both.1.machine ∙ sym one.ends;
    }

-- ---- many turns

abbrev pub Test : Type 0
Test = MemoryState → MemoryState → Bool

-- the last of some turns, if there are any
pub last_of : (test : Test) {n : ℕ} {a x : Point} → LeadsBy test n a x
    → ((n ≡ 0) × (x ≡ a)) ⊎ ((m : ℕ) × (last : Point) × (n ≡ m + 1) × LeadsBy test m a last × IsNextPoint last x × (test last.state x.state ≡ false))
last_of test (none p) = inl (refl, refl)
last_of test (more m old last new before next fails) = inr (m, last, refl, before, next, fails)

pub same_walk : (one_step : OneStep) (printed : List ℕ) (test other : Test) {n : ℕ} {a x : Point} (b y : Point) → AlikePoints printed a b → Goes_well x.end → Goes_well y.end
    → LeadsBy test n a x → LeadsBy other n b y → AlikePoints printed x y
same_walk one_step printed test other b y alike well fine (none p) two = at_start (last_of other two) where
  at_start : (◌≡◌ {A = ℕ} 0 0 × (y ≡ b)) ⊎ ((m : ℕ) × (last : Point) × ◌≡◌ {A = ℕ} 0 (m + 1) × LeadsBy other m b last × IsNextPoint last y × (other last.state y.state ≡ false)) → AlikePoints printed p y
  at_start (inl h) = subst (AlikePoints printed p) (sym h.1) alike
  at_start (inr h) = absurd (let e = h.2 in omega (arith, e))
same_walk one_step printed test other b y alike well fine (more m old last new before next fails) two =
    after_more (λ z rest walk. same_walk one_step printed test other b z alike (none_well last.end next.goes) rest before walk) (last_of other two) where
      after_more : ((z : Point) → Goes_well z.end → LeadsBy other m b z → AlikePoints printed last z)
          → ((m + 1 ≡ 0) × (y ≡ b)) ⊎ ((k : ℕ) × (there : Point) × (m + 1 ≡ k + 1) × LeadsBy other k b there × IsNextPoint there y × (other there.state y.state ≡ false)) → AlikePoints printed new y
      after_more again (inl h) = absurd (let e = h.0 in omega (arith, e))
      after_more again (inr h) =
          let e : h.0 ≡ m = let both = h.2 in omega (arith, both) in
          let lasts = again h.1 (none_well h.1.end h.4.goes) (subst (λ k. LeadsBy other k b h.1) e h.3) in
          one_next one_step printed last h.1 new y lasts.states well fine next h.4

-- a point on the way, in which the run goes on
pub on_the_way : (test : Test) {n : ℕ} {a x : Point} (k : ℕ) → k < n → LeadsBy test n a x → (mid : Point) × (next : Point) × LeadsBy test k a mid × IsNextPoint mid next × (test mid.state next.state ≡ false)
on_the_way test k below (none p) = absurd (omega (arith, below))
on_the_way test k below (more m old last new before next fails) = elim (cases_eq k m) [
  | inl e ↦ (last, new, subst (λ j. LeadsBy test j old last) (sym e) before, next, fails)
  | inr other ↦ on_the_way test k (omega (arith, below, other)) before
]

-- ---- a run from its start

pub first_points : (printed : List ℕ) (start beginning : MemoryState) → AlikeStates printed start beginning → AlikePoints printed (first_point start) (first_point beginning)
first_points printed start beginning alike = record { states = alike; ends = same_end None start beginning alike.machine }

pub one_state : OneStep → (printed : List ℕ) (start beginning : MemoryState) (n : ℕ) (p q : Point) → AlikeStates printed start beginning → IsCalm p → IsCalm q → IsAfter start n p → IsAfter beginning n q → AlikePoints printed p q
one_state one_step printed start beginning n p q alike calm quiet one two =
    same_walk one_step printed never never (first_point beginning) q (first_points printed start beginning alike) (calm_well p.end calm) (calm_well q.end quiet) one two

-- a run that has ended after some turns has no more of them, in whichever of the two it is
no_more : {A : Type 0} → OneStep → (printed : List ℕ) (start beginning : MemoryState) (k n : ℕ) (p q : Point) → AlikeStates printed start beginning → k < n → IsCalm q → q.end ≢ None → IsAfter start n p → IsAfter beginning k q → A
no_more one_step printed start beginning k n p q alike below quiet ended one two =
    let mid = on_the_way never k below one in
    let same = same_walk one_step printed never never (first_point beginning) q (first_points printed start beginning alike) (none_well mid.0.end mid.3.goes) (calm_well q.end quiet) mid.2 two in
    absurd (ended (same.ends ∙ mid.3.goes))

nor_more : {A : Type 0} → OneStep → (printed : List ℕ) (start beginning : MemoryState) (k n : ℕ) (p q : Point) → AlikeStates printed start beginning → k < n → IsCalm p → p.end ≢ None → IsAfter start k p → IsAfter beginning n q → A
nor_more one_step printed start beginning k n p q alike below calm ended one two =
    let mid = on_the_way never k below two in
    let same = same_walk one_step printed never never (first_point beginning) mid.0 (first_points printed start beginning alike) (calm_well p.end calm) (none_well mid.0.end mid.3.goes) one mid.2 in
    absurd (ended (sym same.ends ∙ mid.3.goes))

pub one_number : OneStep → (printed : List ℕ) (turn : ℕ) (new there : Shown) → AlikeStates printed new.start there.start → IsCalm new.point → IsCalm there.point → IsTrue_of_run new → IsTrue_of_run there
    → ShowsTurn turn new → ShowsTurn turn there → there.turn ≡ new.turn
one_number one_step printed turn new there alike calm quiet one two (inl h) (inl k) = k ∙ sym h
one_number one_step printed turn new there alike calm quiet one two (inl h) (inr k) =
    no_more one_step printed new.start there.start there.turn new.turn new.point there.point alike (let below = k.0 in omega (arith, h, below)) quiet k.1 one two
one_number one_step printed turn new there alike calm quiet one two (inr h) (inl k) =
    nor_more one_step printed new.start there.start new.turn there.turn new.point there.point alike (let below = h.0 in omega (arith, k, below)) calm h.1 one two
one_number one_step printed turn new there alike calm quiet one two (inr h) (inr k) = elim (cases_lt new.turn there.turn) [
  | inl sooner ↦ nor_more one_step printed new.start there.start new.turn there.turn new.point there.point alike sooner calm h.1 one two
  | inr later ↦ elim (cases_eq new.turn there.turn) [
    | inl e ↦ sym e
    | inr other ↦ no_more one_step printed new.start there.start there.turn new.turn new.point there.point alike (omega (arith, later, other)) quiet k.1 one two
  ]
]

-- ---- a session

-- two runs of one program with the same input begin alike on disks that look alike
begin_alike : (file : List ℕ) (words : List (List ℕ)) (disk other : Mounted Image) (input : List ℕ) (recorded : List Arrival) (one two : Shown) → AlikeDisks image_is disk other
    → IsFirstShown file words disk (dialog_of input (Some []) 0) recorded one → IsFirstShown file words other (dialog_of input (Some []) 0) recorded two → AlikeStates [] one.start two.start
begin_alike file words disk other input recorded one two disks h k =
    let cpus : k.0 ≡ h.0 = k.2.2 ∙ sym h.2.2 in
    let memories : k.1 ≡ h.1 = k.2.3 ∙ sym h.2.3 in
    let start : MemoryState = record { machine = machine h.0 h.1; system = new_system disk (dialog_of input (Some []) 0); turns = 0; coming = recorded } in
    let beginning : MemoryState = record { machine = machine k.0 k.1; system = new_system other (dialog_of input (Some []) 0); turns = 0; coming = recorded } in
    let alike : AlikeStates [] start beginning = record {
      machine = ap (λ c. machine c k.1) cpus ∙ ap (machine h.0) memories;
      system = record { disk = disks; screen = record { dialog = record { input = refl; output = ([], [], refl, refl, refl); faults = refl }; column = refl }; dma = refl; user = refl; search = refl; within = omega arith };
      turns = refl;
      coming = refl;
    } in
    subst (λ (s : MemoryState). AlikeStates [] s two.start) (sym h.3) (subst (λ (s : MemoryState). AlikeStates [] start s) (sym k.3) alike)

pub one_session : OneStep → (file : List ℕ) (words : List (List ℕ)) (disk other : Mounted Image) (input : List ℕ) (recorded : List Arrival) (turn : ℕ) (one two : Shown) → AlikeDisks image_is disk other
    → ShowsRun file words disk input recorded turn one → ShowsRun file words other input recorded turn two → (two.turn ≡ one.turn) × AlikePoints [] one.point two.point
one_session one_step file words disk other input recorded turn one two disks h k =
    let begun = begin_alike file words disk other input recorded h.first k.first disks h.begins k.begins in
    let starts : AlikeStates [] one.start two.start = subst (λ (s : MemoryState). AlikeStates [] s two.start) (sym h.start) (subst (λ (s : MemoryState). AlikeStates [] h.first.start s) (sym k.start) begun) in
    let number = one_number one_step [] turn one two starts h.calm k.calm h.after k.after h.reached k.reached in
    (number, one_state one_step [] one.start two.start one.turn one.point two.point starts h.calm k.calm h.after (subst (λ (n : ℕ). IsAfter two.start n two.point) number k.after))
