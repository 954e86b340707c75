-- How standard input is read.
use Rattle.std.specs.Prelude.{◌≡◌, ◌⊎◌, ℕ, ◌<◌, ◌≤◌, false, IfSome, Result, Ok, Err, Vec, length}
use Rattle.std.specs.Global.{Global}
use Rattle.common.specs.declared.limits.TheConstants.{LONGEST_TEXT}
use Rattle.z80dev.specs.Reading.{IsCutShort}
use Rattle.host.specs.declared.end.End.{End}
use Rattle.host.specs.declared.end.End.TheVariants as end
use Rattle.host.specs.Reading.{Reader}

-- Standard input is not read: reading failed or did not end, or it is too long; or memory ran out.
abbrev pub IsInputUnread : Reader → Reader → End → Type 0
IsInputUnread old new end.Stream = IsCutShort new.failed new.reads new.interruptions ⊎ IfSome old.left (λ text. LONGEST_TEXT < length text)
IsInputUnread old new end.NoMemory = new.failed ≡ false
IsInputUnread old new _ = ⊥

-- Standard input is read to its end.
abbrev pub ReadsInput : Reader → Reader → Result (Vec ℕ Global) End → Type 0
ReadsInput old new (Ok text) = (length text.items ≤ LONGEST_TEXT) × IfSome old.left (λ all. text.items ≡ all)
ReadsInput old new (Err e) = IsInputUnread old new e
