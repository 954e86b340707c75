-- A run of what the command has read.
use Rattle.std.proofs.Common.{◌≡◌, ℕ, List, Option, subst}
use Rattle.cpm_run.specs.declared.tracing.Left.{Left}
use Rattle.cpm_run.specs.Walks.{IsTraced}
use Rattle.cpm_run.specs.declared.recording.Record.{Record}
use Rattle.cpm_run.specs.declared.recording.Wish.{Wish}
use Rattle.cpm_console.specs.Dialog.{Dialog}
use Rattle.cpm_disk.specs.Calls.{Mounted}
use Rattle.cpm_disk.specs.Image.{Image}
use Rattle.cpm_run.specs.Play.{IsPlayed, IsReplayed}
use Rattle.cpm_console.specs.Seat.{Seat}
use Rattle.cpm_run.specs.Run.{IsRun}
use Rattle.cpm_run.specs.declared.arriving.Arrival.{Arrival}
use Rattle.cpm_run.specs.declared.arriving.PlayEnd.{PlayEnd}
use Rattle.cpm_run.specs.declared.ending.Why.{Why}

module _ (faults : Image → ℕ) (disk : Mounted Image) (steps : ℕ) (end : Why) (turns pc : ℕ) (left : Mounted Image) (kept : Dialog) where
  abbrev Run : List ℕ → List (List ℕ) → Dialog → Type 0
  Run file words console = IsRun (λ sectors. sectors) faults (λ dialog. dialog) file words disk console steps end turns pc left kept

  -- the same run, for an equal program, equal words and an equal console
  pub as_read : (file program : List ℕ) (words meant : List (List ℕ)) (console given : Dialog) → file ≡ program → words ≡ meant → console ≡ given → Run file words console → Run program meant given
  as_read file program words meant console given d e f run = subst (λ c. Run program meant c) f (subst (λ w. Run program w console) e (subst (λ p. Run p words console) d run))

module _ (faults : Image → ℕ) (disk : Mounted Image) (steps : ℕ) (wish : Wish) (end : Why) (turns : ℕ) (state : Option Left) (kept : Option Record) where
  abbrev Traced : List ℕ → List (List ℕ) → Dialog → Type 0
  Traced file words console = IsTraced (λ sectors. sectors) faults (λ dialog. dialog) file words disk console steps wish end turns state kept

  -- the same for a traced run
  pub traced_as_read : (file program : List ℕ) (words meant : List (List ℕ)) (console given : Dialog) → file ≡ program → words ≡ meant → console ≡ given → Traced file words console → Traced program meant given
  traced_as_read file program words meant console given d e f run = subst (λ c. Traced program meant c) f (subst (λ w. Traced program w console) e (subst (λ p. Traced p words console) d run))

module _ (faults : Image → ℕ) (disk : Mounted Image) (steps : ℕ) (before : Seat) (end : PlayEnd) (turns pc : ℕ) (left : Mounted Image) (arrivals : List Arrival) (after : Seat) where
  abbrev Played : List ℕ → List (List ℕ) → Type 0
  Played file words = IsPlayed (λ sectors. sectors) faults file words disk steps before end turns pc left arrivals after

  -- the same for a session at a keyboard
  pub played_as_read : (file program : List ℕ) (words meant : List (List ℕ)) → file ≡ program → words ≡ meant → Played file words → Played program meant
  played_as_read file program words meant d e session = subst (λ w. Played program w) e (subst (λ p. Played p words) d session)

  abbrev Repeated : List Arrival → ℕ → List ℕ → List (List ℕ) → Type 0
  Repeated recorded last file words = IsReplayed (λ sectors. sectors) faults file words disk steps recorded last before end turns pc left arrivals after

  -- the same for a session that is played again
  pub replayed_as_read : (kept recorded : List Arrival) (last : ℕ) (file program : List ℕ) (words meant : List (List ℕ)) → kept ≡ recorded → file ≡ program → words ≡ meant → Repeated kept last file words → Repeated recorded last program meant
  replayed_as_read kept recorded last file program words meant c d e session =
      subst (λ w. Repeated recorded last program w) e (subst (λ p. Repeated recorded last p words) d (subst (λ r. Repeated r last file words) c session))
