-- How the steps of commands on disks end.
use Rattle.std.specs.Prelude.{◌≡◌, ℕ, List, Option, Result, Ok, Err, String}
use Rattle.std.specs.Global.{Global}
use Rattle.host.specs.declared.end.End.{End}
use Rattle.host.specs.declared.end.End.TheVariants as end
use Rattle.z80dev.specs.Disks.{Warns}
use Rattle.host.specs.Ending.{EndsWith}

-- the same, with the warnings of a command
abbrev pub EndsWarned : (Option (List ℕ) → End → Type 0) → Result (Option (String Global)) End → Type 0
EndsWarned Is result = EndsWith (Warns Is) result

-- a line goes with the end at which all is done
abbrev pub DoneWith : End → Option (String Global) → Result (Option (String Global)) End → Type 0
DoneWith end.Done line result = result ≡ Ok line
DoneWith e line result = result ≡ Err e
