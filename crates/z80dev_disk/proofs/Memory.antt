-- Calls of a disk in memory, whose device never fails.
use Rattle.std.proofs.Common.{◌≡◌, ℕ, false, Result, Err, sym, ◌∙◌, inl, inr, arith, true≢false}
use Rattle.cpm_image.specs.Device.{HasRisen}
use Rattle.cpm_image.specs.declared.directory.fault.DiskFault.{DiskFault}
use Rattle.cpm_image.specs.declared.directory.fault.DiskFault.TheVariants as fault
use Rattle.cpm_disk.specs.Calls.{Mounted, HasOutcome}
use Rattle.cpm_disk.specs.Image.{Image}

-- an image in memory as a device: its sectors are the image, and it never fails
abbrev pub itself : Image → Image
itself image = image

abbrev pub never : Image → ℕ
never image = 0

pub never_risen : HasRisen 0 0 → ⊥
never_risen (inl less) = omega (arith, less)
never_risen (inr (most, still)) = omega (arith, most)

-- If the call is refused, the operation refuses it for the same reason, and the disk is unchanged.
pub refused_by : {X : Type 0} (old new : Mounted Image) (expected : Result X DiskFault) (stopped : X → Type 0) (why : DiskFault) → old.failed ≡ false
    → HasOutcome {Y = Unit {0}} never old new expected (λ x y. Unit {0}) stopped (Err why) → (expected ≡ Err why) × (new ≡ old)
refused_by old new expected stopped fault.Fault sound done = let (was, failed, same, risen, x, asked, left) = done in absurd (never_risen risen)
refused_by old new expected stopped fault.Failed sound done = absurd (true≢false (sym done.0 ∙ sound))
refused_by old new expected stopped why sound done = (done.1, done.2)
