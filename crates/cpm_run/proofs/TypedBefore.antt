-- A run on a console in memory is a session.
use Rattle.std.proofs.Common.{◌≡◌, ◌+◌, [], ℕ, List, Some, refl, subst, inl, inr, arith}
use Rattle.z80_cpu.specs.State.{machine}
use Rattle.z80_cpu.specs.declared.registers.Cpu.{Cpu}
use Rattle.cpm_console.specs.Dialog.{Dialog, dialog_of}
use Rattle.cpm_disk.specs.Calls.{Mounted}
use Rattle.cpm_disk.specs.Image.{Image}
use Rattle.cpm_bdos.specs.System.{new_system}
use Rattle.cpm_run.specs.declared.ending.Why.{Why}
use Rattle.cpm_run.specs.Play.{PlayState, PlaysOn, PlayedRunEnds, arrived, first_state}
use Rattle.cpm_run.specs.Play.PlaysOn.{same, goes, came}
use Rattle.cpm_run.specs.Run.{TurnsEnd}
use Rattle.cpm_run.specs.Turns.{Goes, RunState}

module _ {S : Type 0} (sectors : S → Image) (faults : S → ℕ) (cpu : Cpu) (memory : List ℕ) (disk : Mounted S) (typed : List ℕ) where
  -- the state of the run at the start, with all its input
  abbrev start : RunState S Dialog
  start = record { machine = machine cpu memory; system = new_system disk (dialog_of typed (Some []) 0) }

  abbrev session : ℕ → RunState S Dialog → PlayState S
  session turns run = record { run = run; turns = turns; arrivals = arrived 0 typed; shown = [] }

  plays : (turns : ℕ) (new : RunState S Dialog) → Goes sectors faults (λ (d : Dialog). d) turns start new → PlaysOn sectors faults (first_state cpu memory disk) (session turns new)
  plays turns new steps =
      let first = first_state cpu memory disk in
      let made : 0 + turns ≡ turns = omega arith in
      subst (λ (n : ℕ). PlaysOn sectors faults first (session n new)) made (goes turns first (session 0 start) new (came typed first first (same first)) steps)

  pub run_is_session : (limit turns : ℕ) (end : Why) (new : RunState S Dialog) → TurnsEnd sectors faults (λ (d : Dialog). d) limit start end turns new
      → PlayedRunEnds sectors faults limit (first_state cpu memory disk) end (session turns new)
  run_is_session limit turns end new (inl h) = inl (plays turns new h.0, h.2, h.3)
  run_is_session limit turns end new (inr (inl h)) = inr (inl (plays turns new h.0, h.1, h.2, h.3))
  run_is_session limit turns end new (inr (inr h)) = inr (inr (session h.0 h.1, plays h.0 h.1 h.4, h.5, h.6, h.2, refl, refl))
