-- Sessions that look alike.
use Rattle.std.specs.Prelude.{◌≡◌, ◌≢◌, ◌++◌, [], ℕ, List, Some, Ok}
use Rattle.std.specs.Io.KnownBytes.{Keeps}
use Rattle.z80_cpu.specs.declared.registers.Cpu.{Cpu}
use Rattle.cpm_disk.specs.Calls.{Mounted}
use Rattle.cpm_disk.specs.Image.{Image}
use Rattle.cpm_bdos.specs.Alike.{AlikeSystems}
use Rattle.cpm_run.specs.Play.{IsEcho, PlayState, PlaysOn, first_state}
use Rattle.cpm_console.specs.Seat.{Seat}
use Rattle.cpm_run.specs.Start.{IsStart}
use Rattle.cpm_run.specs.declared.arriving.Arrival.{Arrival}
use Rattle.cpm_run.specs.declared.arriving.PlayEnd.{PlayEnd}
use Rattle.cpm_run.specs.declared.arriving.PlayEnd.TheVariants as play

-- Two sessions that look alike to the program, to a reader of the disk, and to the person. The bytes that were shown, and then those that were
-- put and are not shown yet, are the same in both.
pub record AlikeSessions {S : Type 0} (sectors : S → Image) (a b : PlayState S) : Type 0 where
  pub machine : b.run.machine ≡ a.run.machine
  pub system : AlikeSystems sectors (λ d. d) (Some (a.shown, b.shown)) a.run.system b.run.system

-- What the screen may have got for the program before it put it: the echo of the line for which the session with these bytes waited after this
-- number of steps. A session that did not wait for a line has none. There is only one such session, by `laws::one_session`.
abbrev pub IsEchoAfter : {S : Type 0} → (S → Image) → (S → ℕ) → List ℕ → List (List ℕ) → Mounted S → ℕ → List Arrival → List ℕ → Type 0
IsEchoAfter {S} sectors faults file words disk turns arrivals echo =
    (cpu : Cpu) × (memory : List ℕ) × (s : PlayState S) × IsStart file words (Ok (cpu, memory)) × PlaysOn sectors faults (first_state cpu memory disk) s × (turns ≡ s.turns) × (arrivals ≡ s.arrivals) × IsEcho s.run echo

-- What the screen got in a session that ended in this way, and what the screen got when the session was played again: the same bytes. If the person
-- left, the first may have got the echo of a line after them.
pub record SameShown (IsLineEcho : List ℕ → Type 0) (end : PlayEnd) (before after again_before again_after : Seat) : Type 0 where
  pub bytes : List ℕ
  pub echo : List ℕ
  pub first : (more : List ℕ) → Keeps (before.screen (bytes ++ echo ++ more)) (after.screen more)
  pub again : (more : List ℕ) → Keeps (again_before.screen (bytes ++ more)) (again_after.screen more)
  pub left : end ≡ play.Left → IsLineEcho echo
  pub none : end ≢ play.Left → echo ≡ []
