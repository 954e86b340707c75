-- A write that is refused does not report a failure of the device.
use Rattle.std.proofs.Common.{◌≡◌, ◌%◌, ℕ, false, List, Result, Err, refl}
use Rattle.cpm_image.specs.Kind.{block_records}
use Rattle.cpm_image.specs.declared.directory.fault.DiskFault.{DiskFault}
use Rattle.cpm_image.specs.declared.directory.fault.DiskFault.TheVariants as fault
use Rattle.cpm_disk.specs.Refusals.{RefusesWriting}
use Rattle.cpm_disk.specs.Steps.{writing}
use Rattle.cpm_disk.specs.Calls.{Mounted, HasOutcome, PartlyWritten, Written}
use Rattle.cpm_disk.specs.Image.{Image, directory}
use Rattle.cpm_disk.specs.Operations.{IsRecordWritten}

refused : {S X Y : Type 0} (faults : S → ℕ) (disk : Mounted S) (expected : Result X DiskFault) (finished : X → Y → Type 0) (stopped : X → Type 0) (e : DiskFault) → disk.failed ≡ false → expected ≡ Err e → RefusesWriting e → HasOutcome faults disk disk expected finished stopped (Err e)
refused faults disk expected finished stopped fault.Fault open_is is refuses = absurd refuses
refused faults disk expected finished stopped fault.Failed open_is is refuses = absurd refuses
refused faults disk expected finished stopped _ open_is is refuses = (open_is, is, refl)

pub write_refused : {S : Type 0} (sectors : S → Image) (faults : S → ℕ) (disk : Mounted S) (user : ℕ) (name : List ℕ) (number : ℕ) (bytes : List ℕ) (e : DiskFault) → disk.failed ≡ false → writing disk.kind user name number (directory disk.kind (sectors disk.device)) ≡ Err e → RefusesWriting e → IsRecordWritten sectors faults disk disk user name number bytes (Err e)
write_refused sectors faults disk user name number bytes e open_is is refuses =
    refused {Y = Unit {0}} faults disk (writing disk.kind user name number (directory disk.kind (sectors disk.device))) (λ p _. Written disk.kind (sectors disk.device) (sectors disk.device) p (number % block_records disk.kind) bytes) (λ p. PartlyWritten disk.kind (sectors disk.device) (sectors disk.device) p (number % block_records disk.kind) bytes)
    e open_is is refuses
