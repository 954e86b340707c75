-- The steps that the machine makes between two addresses of the system are steps of the run.
use Rattle.std.proofs.Common.{◌≡◌, ◌≢◌, ℕ, ◌+◌, ◌-◌, ◌<◌, ◌≤◌, inr, Bool, true, false, Option, Some, None, refl, sym, subst, arith}
use Rattle.std.specs.Prelude.{◌==◌, ◌||◌, nat_le}
use Rattle.std.proofs.lemmas.Bool.Decides.{nat_tests}
use Rattle.z80_cpu.specs.State.{Machine}
use Rattle.z80_machine.specs.Types.{Step}
use Rattle.z80_machine.specs.declared.runs.Watch.{Watch}
use Rattle.z80_machine.specs.declared.runs.Stop.{Stop}
use Rattle.z80_machine.specs.Run.{Ended, Ran, Turns, is_watched}
use Rattle.z80_machine.specs.Run.Turns.{none as no_turns, more as one_more}
use Rattle.z80_machine.specs.Turn.{IsStep}
use Rattle.cpm_console.specs.Dialog.{Dialog}
use Rattle.cpm_disk.specs.Image.{Image}
use Rattle.cpm_bdos.specs.System.{System}
use Rattle.cpm_run.specs.declared.ending.Why.{Why}
use Rattle.cpm_run.specs.Run.{TurnsEnd}
use Rattle.cpm_run.specs.Turns.{Goes, Place, Program, TurnAt, IsTurn, RunState, is_finished, place_at_pc, step_end}
use Rattle.cpm_run.specs.Turns.Goes.{more}

abbrev pub system : Watch
system = record { from = 0xFF00; at = 0xFE06 }

abbrev pub at : {S C : Type 0} → Machine → System S C → RunState S C
at m s = record { machine = m; system = s }

neither : (a b : Bool) → (a || b) ≡ false → (a ≡ false) × (b ≡ false)
neither true b e = absurd cc
neither false b e = (refl, e)

-- at an address that is not watched there is the program, and it has not finished
pub unwatched : (pc : ℕ) → is_watched system pc ≡ false → (place_at_pc pc ≡ Program) × (is_finished pc ≡ false)
unwatched pc e =
    let both = neither (nat_le 0xFF00 pc) (pc == 0xFE06) e in
    let low : nat_le 0xFF06 pc ≡ false = grind (arith, nat_tests, both.0) in
    let cold : (pc == 0xFF00) ≡ false = grind (arith, nat_tests, both.0) in
    let warm : (pc == 0xFF03) ≡ false = grind (arith, nat_tests, both.0) in
    (rw (both.1, low) refl, rw (cold, warm) refl)

-- the machine stopped for a reason that does not end the run
abbrev pub Pauses : Stop → Type 0
Pauses stop = (stop ≢ Stop.Halted) × (stop ≢ Stop.Undocumented)

pub none_of : {A : Type 0} (o : Option A) → ((x : A) → o ≢ Some x) → o ≡ None
none_of None other = refl
none_of (Some x) other = absurd (other x refl)

-- the same, with an equal reason for the stop
pub ran_as : (limit k : ℕ) (stop other : Stop) (old new : Machine) → stop ≡ other → Ran system limit k stop old new → Ran system limit k other old new
ran_as limit k stop other old new e ran = subst (λ (s : Stop). Ran system limit k s old new) e ran

module _ {S C : Type 0} (sectors : S → Image) (faults : S → ℕ) (dialog : C → Dialog) where
  -- one step of the machine at such an address is a step of the run
  pub step_is_turn : (outcome : Step) (old new : Machine) (s : System S C) → is_watched system old.cpu.pc ≡ false → IsStep outcome old new → IsTurn sectors faults dialog (at old s) (step_end outcome) (at new s)
  step_is_turn outcome old new s e is =
      subst (λ (p : Place). TurnAt sectors faults dialog p (at old s) (step_end outcome) (at new s)) (sym (unwatched old.cpu.pc e).0) (outcome, is, refl, refl)

  -- the same, with an equal reason for the end
  pub turn_as : (end other : Option Why) (old new : RunState S C) → end ≡ other → IsTurn sectors faults dialog old end new → IsTurn sectors faults dialog old other new
  turn_as end other old new e turn = subst (λ (o : Option Why). IsTurn sectors faults dialog old o new) e turn

  -- many steps of the machine are steps of the run
  pub go_on : {k : ℕ} {old new : Machine} (n : ℕ) (start : RunState S C) (s : System S C) → Goes sectors faults dialog n start (at old s) → Turns system k old new → Goes sectors faults dialog (n + k) start (at new s)
  go_on n start s before (no_turns m) =
      let same : n ≡ n + 0 = omega arith in
      subst (λ i. Goes sectors faults dialog i start (at m s)) same before
  go_on n start s before (one_more j old mid new first e is) =
      let next : n + j + 1 ≡ n + (j + 1) = omega arith in
      subst (λ i. Goes sectors faults dialog i start (at new s)) next
      (more (n + j) start (at mid s) (at new s) (go_on n start s before first) (unwatched mid.cpu.pc e).1 (step_is_turn Step.Done mid new s e is))

  -- the machine stopped, and the run continues
  pub goes_to : {old new : Machine} (limit n k : ℕ) (stop : Stop) (start : RunState S C) (s : System S C) → n ≤ limit → Goes sectors faults dialog n start (at old s) → Ran system (limit - n) k stop old new → Pauses stop
      → (n + k ≤ limit) × Goes sectors faults dialog (n + k) start (at new s)
  goes_to limit n k Stop.Watched start s le before ran pauses = (omega (arith, ran.0), go_on n start s before ran.1)
  goes_to limit n k Stop.Limit start s le before ran pauses = (omega (arith, ran.0), go_on n start s before ran.1)
  goes_to limit n k Stop.Halted start s le before ran pauses = absurd (pauses.0 refl)
  goes_to limit n k Stop.Undocumented start s le before ran pauses = absurd (pauses.1 refl)

  -- the last step of the machine ends the run
  pub ended : {old new : Machine} (limit n k : ℕ) (outcome : Step) (end : Why) (start : RunState S C) (s : System S C) → step_end outcome ≡ Some end → n ≤ limit → Goes sectors faults dialog n start (at old s)
      → k < limit - n → Ended system k outcome old new → TurnsEnd sectors faults dialog limit start end (n + k + 1) (at new s)
  ended {new = new} limit n k outcome end start s is le before below (last, steps, e, step) =
      inr (inr (
        n + k,
        at last s,
        refl,
        omega (arith, below),
        go_on n start s before steps,
        (unwatched last.cpu.pc e).1,
        turn_as (step_end outcome) (Some end) (at last s) (at new s) is (step_is_turn outcome last new s e step),
      ))

  -- the same, for a system that is equal at the start
  pub ends_from : (limit : ℕ) (m : Machine) (a b : System S C) (end : Why) (turns : ℕ) (new : RunState S C) → a ≡ b → TurnsEnd sectors faults dialog limit (at m a) end turns new → TurnsEnd sectors faults dialog limit (at m b) end turns new
  ends_from limit m a b end turns new e ends = subst (λ (s : System S C). TurnsEnd sectors faults dialog limit (at m s) end turns new) e ends
