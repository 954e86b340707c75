-- Runs that look alike: to the program, to a reader of the disk, and to the user of the console.
use Rattle.std.specs.Prelude.{◌≡◌, ℕ, List, [], Some}
use Rattle.cpm_bdos.specs.Alike.{AlikeSystems}
use Rattle.cpm_console.specs.Dialog.{dialog_of}
use Rattle.cpm_disk.specs.Calls.{Mounted}
use Rattle.cpm_disk.specs.Image.{Image}
use Rattle.cpm_run.specs.Undisturbed.{IsUndisturbed}
use Rattle.cpm_run.specs.declared.arriving.Arrival.{Arrival}
use Rattle.machine_history.specs.Going.{IsFirstShown, ShowsTurn}
use Rattle.machine_history.specs.Walk.{IsTrue_of_run, MemoryState, Point, Shown, limit_end}

-- Two states with the same registers and memory, with systems that look alike, after as many turns and with the same bytes still to come.
-- `printed` is what was printed before the runs began, on both consoles.
pub record AlikeStates (printed : List ℕ) (a b : MemoryState) : Type 0 where
  pub machine : b.machine ≡ a.machine
  pub system : AlikeSystems (λ image. image) (λ dialog. dialog) (Some (printed, printed)) a.system b.system
  pub turns : b.turns ≡ a.turns
  pub coming : b.coming ≡ a.coming

-- such states, in which the run ends for the same reason or goes on
pub record AlikePoints (printed : List ℕ) (p q : Point) : Type 0 where
  pub states : AlikeStates printed p.state q.state
  pub ends : q.end ≡ p.end

-- two histories that show such points, of runs that begin in such states
pub record AlikeHistories (printed : List ℕ) (a b : Shown) : Type 0 where
  pub starts : AlikeStates printed a.start b.start
  pub turn : b.turn ≡ a.turn
  pub points : AlikePoints printed a.point b.point

-- The run did not end because memory ran out for what the program printed or for a byte that came, or because the disk failed.
abbrev pub IsCalm : Point → Type 0
IsCalm p = IsUndisturbed (limit_end p.end)

-- What a debugger shows of a run of this program, to which the bytes of a record come, when it is to show this turn: the state after this
-- number of turns, or the last one if the run has fewer. The run was not disturbed.
pub record ShowsRun (file : List ℕ) (words : List (List ℕ)) (disk : Mounted Image) (input : List ℕ) (recorded : List Arrival) (turn : ℕ) (shown : Shown) : Type 0 where
  pub first : Shown
  pub begins : IsFirstShown file words disk (dialog_of input (Some []) 0) recorded first
  pub start : shown.start ≡ first.start
  pub after : IsTrue_of_run shown
  pub reached : ShowsTurn turn shown
  pub calm : IsCalm shown.point
