-- When the keyboard is looked at.
use Rattle.std.specs.Prelude.{◌≡◌, ◌≢◌, ℕ, ◌+◌, ◌-◌, ◌&&◌, ◌||◌, ◌==◌, Bool, false, true, IfOk, List, [], ◌∷◌, Result, Ok, Err, if◌then◌else◌, length, nat_le, nat_lt, not}
use Rattle.cpm_console.specs.declared.station.Came.{Came}
use Rattle.cpm_console.specs.declared.station.Came.TheVariants as came
use Rattle.cpm_console.specs.declared.station.Patience.{Patience}
use Rattle.cpm_console.specs.declared.station.Patience.TheVariants as how
use Rattle.cpm_console.specs.declared.station.StationFault.{StationFault}
use Rattle.z80dev_run.specs.declared.desk.Keys.{Keys}
use Rattle.z80dev_run.specs.declared.desk.Keys.TheVariants as keys
use Rattle.z80dev_run.specs.declared.rhythm.Rhythm.{Rhythm}

-- By lines, a look is put off while the program is busy, until the last read is 100,000,000 steps ago.
abbrev pub is_put_off : Keys → Rhythm → ℕ → Bool
is_put_off keys.Lines r turns = r.is_busy && nat_lt (turns - r.heard) 100000000
is_put_off keys.Raw r turns = false

-- Keys come as they are pressed, and so much was shown since the last look that the next one is made at once.
abbrev pub is_loud : Keys → Rhythm → Bool
is_loud keys.Raw r = r.allowance == 0
is_loud keys.Lines r = false

-- the number of steps in a pause: more while the program is busy
abbrev pub pause : Rhythm → ℕ
pause r = if r.is_busy then 2000000 else 200000

-- If the session waits, the desk looks at once. If it glances, so that a person can leave, the desk looks only if keys come as they are pressed. Such
-- a glance, and a poll that is not put off, is due after the pause. If keys come as they are pressed, it is due earlier once 1,048,576 bytes are shown
-- since the last look. So if the session glances because of what it has shown, the desk looks: it has shown as much since its own last look, or more.
abbrev pub is_read_due : Keys → Rhythm → ℕ → Patience → Bool
is_read_due how_keys r turns how.Wait = true
is_read_due keys.Lines r turns how.Glance = false
is_read_due keys.Raw r turns how.Glance = is_loud keys.Raw r || nat_le (pause r) (turns - r.paused)
is_read_due how_keys r turns how.Poll = not (is_put_off how_keys r turns) && (is_loud how_keys r || nat_le (pause r) (turns - r.paused))

-- The desk does not read for a look that is put off, but a new pause begins, in which the program is idle until it shows something. If it is always
-- busy, a look is due 2,000,000 steps after the last one that was put off, and that may be 102,000,000 steps after the last read.
abbrev pub put_off : Rhythm → ℕ → Rhythm
put_off r turns = record r { paused = turns; is_busy = false }

abbrev pub rhythm_after_asking : Keys → Rhythm → ℕ → Patience → Rhythm
rhythm_after_asking how_keys r turns how.Wait = r
rhythm_after_asking how_keys r turns how.Glance = r
rhythm_after_asking how_keys r turns how.Poll = if is_put_off how_keys r turns then put_off r turns else r

-- Keys came in a look with this answer.
abbrev pub has_come : Result Came StationFault → Bool
has_come (Ok (came.Bytes count)) = nat_lt 0 count
has_come (Ok came.Leave) = true
has_come (Ok came.End) = false
has_come (Err fault) = false

-- A look with this answer has read once. This says nothing if no byte will ever come, or if the look failed.
abbrev pub HasRead : Result Came StationFault → ℕ → ℕ → Type 0
HasRead answer old new = IfOk answer (λ what. what ≢ came.End → new ≡ old + 1)

-- A look begins a pause, in which the program is busy from the start if a byte came.
abbrev pub rhythm_after_look : ℕ → Result Came StationFault → Rhythm
rhythm_after_look turns answer = record { paused = turns; heard = turns; is_busy = has_come answer; allowance = 1048576 }

abbrev pub rhythm_after_showing : List ℕ → Rhythm → Rhythm
rhythm_after_showing bytes r = if length bytes == 0 then r else record r { is_busy = true; allowance = r.allowance - length bytes }

-- the same of several outputs, one after the other
abbrev pub rhythm_after_all : List (List ℕ) → Rhythm → Rhythm
rhythm_after_all [] r = r
rhythm_after_all (bytes ∷ more) r = rhythm_after_all more (rhythm_after_showing bytes r)
