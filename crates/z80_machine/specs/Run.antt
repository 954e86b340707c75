-- A run makes steps, one after the other, each as a single call of `step` makes it.
use Rattle.std.specs.Prelude.{◌≡◌, ◌<◌, ℕ, ◌+◌, Bool, true, false, ◌||◌, ◌==◌, nat_le}
use Rattle.z80_machine.specs.Types.{Step}
use Rattle.z80_machine.specs.declared.runs.Watch.{Watch}
use Rattle.z80_machine.specs.declared.runs.Stop.{Stop}
use Rattle.z80_cpu.specs.State.{Machine}
use Rattle.z80_machine.specs.Turn.{IsStep}

abbrev pub is_watched : Watch → ℕ → Bool
is_watched watch address = nat_le watch.from address || (address == watch.at)

-- this number of steps leads from the first state to the second, and each began at a PC that is not watched
pub data Turns (watch : Watch) : ℕ → Machine → Machine → Type 0 where
  none : (m : Machine) → Turns watch 0 m m
  more : (n : ℕ) (old m new : Machine) → Turns watch n old m → is_watched watch m.cpu.pc ≡ false → IsStep Step.Done m new → Turns watch (n + 1) old new

-- this number of steps, and then one that began at a PC that is not watched and answered `step`
abbrev pub Ended : Watch → ℕ → Step → Machine → Machine → Type 0
Ended watch turns step old new =
    (last : Machine) × Turns watch turns old last × (is_watched watch last.cpu.pc ≡ false) × IsStep step last new

-- What a run has done after this number of steps: it has reached the limit, or it stopped before, for this reason.
abbrev pub Ran : Watch → ℕ → ℕ → Stop → Machine → Machine → Type 0
Ran watch limit turns Stop.Watched old new = (turns < limit) × Turns watch turns old new × (is_watched watch new.cpu.pc ≡ true)
Ran watch limit turns Stop.Halted old new = (turns < limit) × Ended watch turns Step.Halted old new
Ran watch limit turns Stop.Undocumented old new = (turns < limit) × Ended watch turns Step.Undocumented old new
Ran watch limit turns Stop.Limit old new = (turns ≡ limit) × Turns watch turns old new
