-- How the image of the disk of a run is claimed.
use Rattle.std.specs.Prelude.{ℕ, Bool, List, Option, None, Some, Result, Ok, Err}
use Rattle.std.specs.Borrow.{Bor}
use Rattle.host.specs.Files.{Folder, IsFree}
use Rattle.host.specs.declared.end.End.{End}
use Rattle.z80dev_jobs.specs.Runs.Running.{ClaimsDisk, IsDiskNotClaimed}
use Rattle.host.specs.declared.image.Image.{Image}
use Rattle.host.specs.Claims.{image_lines}

-- the image of the disk of a run is claimed, if there is one
abbrev pub ClaimsDiskImage : Option (Bor (List ℕ)) → Bool → Folder → Folder → Result Image End → Type 0
ClaimsDiskImage disk wanted old new (Ok image) = ClaimsDisk disk wanted old new image.bytes.items (image_lines image)
ClaimsDiskImage disk wanted old new (Err e) = IsDiskNotClaimed disk wanted old new e

-- a file may be written beside the image of the disk of a run, if there is one
abbrev pub IsFreeOf : Option (Bor (List ℕ)) → Folder → Type 0
IsFreeOf None f = Unit {0}
IsFreeOf (Some path) f = IsFree f path.now
