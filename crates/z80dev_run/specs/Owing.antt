-- To what the answers of somebody at standard input and standard output are owed.
use Rattle.std.specs.Prelude.{◌≡◌, ◌≢◌, ◌<◌, ◌+◌, ◌⊎◌, ℕ, Bool, false, true, List, Option, Result, Ok, Err, length}
use Rattle.std.specs.Io.KnownBytes.{IsAtEnd}
use Rattle.host.specs.Streams.Stream.{Stream, counted}
use Rattle.cpm_console.specs.Seat.{SeatEvent}
use Rattle.cpm_console.specs.declared.station.Came.{Came}
use Rattle.cpm_console.specs.declared.station.Came.TheVariants as came
use Rattle.cpm_console.specs.declared.station.StationFault.{StationFault}
use Rattle.cpm_console.specs.declared.codes.Codes.{Codes}
use Rattle.cpm_console.specs.declared.codes.Codes.TheVariants.{Plain}
use Rattle.z80dev_run.specs.Desk.{DeskState}
use Rattle.z80dev_run.specs.Rhythm.{rhythm_after_asking, rhythm_after_look, rhythm_after_showing, is_read_due}
use Rattle.z80dev_run.specs.declared.desk.InputState.{InputState}
use Rattle.z80dev_run.specs.declared.desk.InputState.TheVariants as state
use Rattle.z80dev_run.specs.declared.desk.Keys.{Keys}
use Rattle.z80dev_run.specs.declared.desk.Keys.TheVariants as keys
use Rattle.z80dev_run.specs.declared.rhythm.Rhythm.{Rhythm}

-- A desk, and what its streams count: how keys come, whose screen codes are shown, when the keyboard was looked at, and whether standard input can be
-- read; the reads of standard input, how many of them were interrupted, whether one failed, and what is left, if that is known; and the failures of
-- standard output.
pub record DeskCounts : Type 0 where
  pub keys : Keys
  pub codes : Codes
  pub rhythm : Rhythm
  pub state : InputState
  pub reads : ℕ
  pub interruptions : ℕ
  pub failed : Bool
  pub left : Option (List ℕ)
  pub output : Stream

abbrev pub counts_of : {I S : Type 0} → DeskState I S → ℕ → ℕ → Bool → Option (List ℕ) → Stream → DeskCounts
counts_of d reads interruptions failed left output =
    record { keys = d.keys; codes = d.screen.codes; rhythm = d.rhythm; state = d.state; reads = reads; interruptions = interruptions; failed = failed; left = left; output = output }

-- Standard input was read once, and can be read again.
pub record ReadsOnce (old new : DeskCounts) : Type 0 where
  pub reads : new.reads ≡ old.reads + 1
  pub was : old.state ≡ state.Open
  pub is : new.state ≡ state.Open

-- Standard input came to this state by one read: in an earlier look, and this one reads nothing; or in this look.
abbrev pub IsByOneRead : InputState → DeskCounts → DeskCounts → Type 0
IsByOneRead is old new = ((old.state ≡ is) × (new.reads ≡ old.reads)) ⊎ ((old.state ≡ state.Open) × (new.reads ≡ old.reads + 1))

-- To what the answer to a look is owed that is due. Any number of bytes is owed to one read; no byte, to a read that was interrupted, or if keys come
-- as they are pressed, to one that gave nothing. That the person leaves is owed to one read. That no key will come, which only lines can say, is owed
-- to one read that found the end, in this look or in an earlier one. A failure is owed to one read that failed, in this look or in an earlier one; or
-- 4,294,967,296 reads were made before, and this look makes none.
abbrev pub LookOwes : DeskCounts → DeskCounts → Result Came StationFault → Type 0
LookOwes old new (Ok (came.Bytes count)) = ReadsOnce old new × (count ≡ 0 → (new.interruptions ≡ old.interruptions + 1) ⊎ ((old.keys ≡ keys.Raw) × IsAtEnd new.left))
LookOwes old new (Ok came.Leave) = ReadsOnce old new
LookOwes old new (Ok came.End) = (old.keys ≢ keys.Raw) × IsAtEnd new.left × (new.state ≡ state.Ended) × IsByOneRead state.Ended old new
LookOwes old new (Err fault) = ((new.failed ≡ true) × (new.state ≡ state.Failed) × IsByOneRead state.Failed old new) ⊎ ((old.state ≡ state.Open) × (new.reads ≡ 4294967296) × (new ≡ record old { rhythm = new.rhythm }))

-- To what an answer of a desk is owed. A look that is not due answers no byte and reads nothing. For one that is due, standard input was read. Bytes are
-- shown if no write failed. If the screen did not take them, a write failed, or memory ran out for what the screen codes turn them into, which
-- bytes that are shown as they are do not need.
abbrev pub DeskOwes : DeskCounts → DeskCounts → SeatEvent → Type 0
DeskOwes old new (SeatEvent.asked turns patience answer) = (new.keys ≡ old.keys) × (new.codes ≡ old.codes) × (new.output ≡ old.output)
    × (((is_read_due old.keys old.rhythm turns patience ≡ false) × (answer ≡ Ok (came.Bytes 0)) × (new ≡ record old { rhythm = rhythm_after_asking old.keys old.rhythm turns patience }))
    ⊎ ((is_read_due old.keys old.rhythm turns patience ≡ true) × (new.rhythm ≡ rhythm_after_look turns answer) × LookOwes old new answer))
DeskOwes old new (SeatEvent.showed bytes) = (new ≡ record old { rhythm = rhythm_after_showing bytes old.rhythm; output = new.output }) × (new.output.failures ≡ old.output.failures)
    × (0 < length bytes → new.output.held ≡ false)
DeskOwes old new (SeatEvent.not_showed bytes) = (new ≡ record old { rhythm = rhythm_after_showing bytes old.rhythm; output = new.output }) × (0 < length bytes)
    × ((new.output.failures ≡ counted old.output.failures) ⊎ ((old.codes ≢ Plain) × (new.output ≡ old.output)))
