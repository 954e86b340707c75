-- How the end of a command is reported, and when its values are refused.
use Rattle.std.specs.Prelude.{◌≡◌, ℕ, List, [], ◌∷◌, Option, None, Some, ◌⊎◌, Result, Ok, Err, String, option_map, string_bytes}
use Rattle.host.specs.Streams.Stream.{Stream}
use Rattle.host.specs.End.{IsPut, Tells, end_status}
use Rattle.host.specs.Streams.Writing.{error_line}
use Rattle.host.specs.declared.end.End.{End}
use Rattle.host.specs.declared.end.End.TheVariants as end
use Rattle.host.specs.Ending.{Effect, effect_of}
use Rattle.host.specs.World.{World}
use Rattle.std.specs.declared.alloc.AllocError.{AllocError}
use Rattle.std.specs.Global.{Global}

-- these lines are put, if there are some
abbrev pub PutsLines : List ℕ → Stream → Stream → Type 0
PutsLines [] old new = new ≡ old
PutsLines (byte ∷ more) old new = IsPut old new (byte ∷ more)

-- lines are put on standard error, if there are some
abbrev pub TellsLine : Option (List ℕ) → Stream → Stream → Type 0
TellsLine None old new = new ≡ old
TellsLine (Some line) old new = IsPut old new line

abbrev pub either : Option (List ℕ) → Option (List ℕ) → Option (List ℕ)
either (Some why) other = Some why
either None other = other

abbrev pub effect : World → World → Effect
effect old new = effect_of old.folder new.folder old.output new.output

-- A job ends, its end is reported on standard error, and standard input is not read.
abbrev pub Reports : (Effect → End → Type 0) → World → World → ℕ → Type 0
Reports Ends old new status = (e : End) × Ends (effect old new) e × (status ≡ end_status e) × Tells e old.errors new.errors × (new.input ≡ old.input)

-- the line of an end; or the lines of a job at which all is done: how many jumps are short and long, or warnings
abbrev pub TellsWith : Option (List ℕ) → End → Stream → Stream → Type 0
TellsWith line end.Done old new = TellsLine line old new
TellsWith line e old new = Tells e old new

abbrev pub ReportsLine : (Effect → Option (List ℕ) → End → Type 0) → World → World → ℕ → Type 0
ReportsLine Ends old new status = (line : Option (List ℕ)) × (e : End) × Ends (effect old new) line e × (status ≡ end_status e) × TellsWith line e old.errors new.errors
    × (new.input ≡ old.input)

-- The lines of a job at which all is done, or its end.
abbrev pub TellsAtEnd : List ℕ → End → Stream → Stream → Type 0
TellsAtEnd lines end.Done old new = PutsLines lines old new
TellsAtEnd lines e old new = Tells e old new

abbrev pub ReportsLines : (Effect → List ℕ → End → Type 0) → World → World → ℕ → Type 0
ReportsLines Ends old new status = (lines : List ℕ) × (e : End) × Ends (effect old new) lines e × (status ≡ end_status e) × TellsAtEnd lines e old.errors new.errors
    × (new.input ≡ old.input)

-- No file is touched, and standard input is not read
pub record Untouched (old new : World) : Type 0 where
  pub folder : new.folder ≡ old.folder
  pub input : new.input ≡ old.input

-- Memory ran out before the job began.
abbrev pub LacksMemory : Stream → Stream → Stream → Stream → ℕ → Type 0
LacksMemory before after old new status = (status ≡ 1) × (after ≡ before) × Tells end.NoMemory old new

-- The value of an option is refused with this text, as wrong words are.
abbrev pub RefusesValue : List ℕ → Stream → Stream → Stream → Stream → ℕ → Type 0
RefusesValue why before after old new status = (status ≡ 2) × (after ≡ before) × IsPut old new (error_line why)

-- The first value that is wrong is refused. If there is none, the job is done.
abbrev pub UnlessBad : Option (List ℕ) → (World → World → ℕ → Type 0) → World → World → ℕ → Type 0
UnlessBad None Does old new status = Does old new status
UnlessBad (Some why) Does old new status = Untouched old new × RefusesValue why old.output new.output old.errors new.errors status

-- The values are looked at before any file is read. Memory may run out for that.
abbrev pub Judging : Option (List ℕ) → (World → World → ℕ → Type 0) → World → World → ℕ → Type 0
Judging why Does old new status = UnlessBad why Does old new status ⊎ (Untouched old new × LacksMemory old.output new.output old.errors new.errors status)

-- the values are right, or the command ends with this status
abbrev pub JudgesValues : Option (List ℕ) → Stream → Stream → Option ℕ → Type 0
JudgesValues bad old new None = (bad ≡ None) × (new ≡ old)
JudgesValues bad old new (Some status) = ((why : List ℕ) × (bad ≡ Some why) × RefusesValue why old old old new status) ⊎ LacksMemory old old old new status

-- the same, given what was found out about the values; memory may have run out for that
abbrev pub JudgesBad : Result (Option (String Global)) AllocError → Stream → Stream → Option ℕ → Type 0
JudgesBad (Ok bad) old new status = JudgesValues (option_map string_bytes bad) old new status
JudgesBad (Err e) old new None = ⊥
JudgesBad (Err e) old new (Some status) = LacksMemory old old old new status
