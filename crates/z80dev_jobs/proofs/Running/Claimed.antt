-- What a run reads after it has claimed the image of its disk.
use Rattle.std.proofs.Common.{ℕ, Bool, Bor, List, Option, None, Some, Vec, subst, ap}
use Rattle.std.specs.Global.{Global}
use Rattle.host.specs.Files.{Folder}
use Rattle.host.specs.Reading.{IsRead, IsReadIfGiven}
use Rattle.z80dev_jobs.specs.Runs.Running.{ClaimsDisk}
use Rattle.z80dev_jobs.specs.Private.Images.{IsFreeOf}

-- a claim changes no file
pub read_before : (disk : Option (Bor (List ℕ))) (lock : Bool) (old mid : Folder) (image : List ℕ) (lines : Option (List ℕ)) (path bytes : List ℕ)
    → ClaimsDisk disk lock old mid image lines → IsRead mid path bytes → IsRead old path bytes
read_before None lock old mid image lines path bytes (same, empty, quiet) read = subst (λ f. IsRead f path bytes) same read
read_before (Some at) lock old mid image lines path bytes (is_held, (accepts, is, given, may, seen, named), told) read = subst (λ f. IsRead f path bytes) is read

pub given_before : (disk : Option (Bor (List ℕ))) (lock : Bool) (old mid : Folder) (image : List ℕ) (lines : Option (List ℕ)) (path : Option (Bor (List ℕ))) (bytes : Option (Vec ℕ Global))
    → ClaimsDisk disk lock old mid image lines → IsReadIfGiven mid path bytes → IsReadIfGiven old path bytes
given_before disk lock old mid image lines None bytes claims none = none
given_before disk lock old mid image lines (Some path) bytes claims (found, is, read) = (found, is, read_before disk lock old mid image lines path.now found.items claims read)

-- The image of a run's disk is claimed, so a file may be written beside it.
pub free_of : (disk : Option (Bor (List ℕ))) (wanted : Bool) (old new : Folder) (bytes : List ℕ) (lines : Option (List ℕ)) → ClaimsDisk disk wanted old new bytes lines → IsFreeOf disk new
free_of None wanted old new bytes lines claims = tt
free_of (Some path) wanted old new bytes lines (is_held, (accepts, is, given, may, read, named), told) = ((wanted, is_held, ap (λ f. f.locked) is), ap (λ f. f.is_spent) is, ap (λ f. f.part) is)
