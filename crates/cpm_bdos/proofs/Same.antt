-- The same call of a disk, and the same change of a file control block, written in two ways.
use Rattle.std.proofs.Common.{◌≡◌, ℕ, List, Result, ap, subst, ◌∙◌}
use Rattle.std.specs.Prelude.{⊤}
use Rattle.cpm_image.specs.declared.directory.fault.DiskFault.{DiskFault}
use Rattle.cpm_disk.specs.Calls.{Mounted}
use Rattle.cpm_disk.specs.Image.{Image}
use Rattle.cpm_disk.specs.Operations.{IsRecordRead, IsRecordWritten}
use Rattle.cpm_bdos.specs.Records.Entries.{with_extent_entry}

pub read_as : {S : Type 0} (sectors : S → Image) (faults : S → ℕ) (old new : Mounted S) (user : ℕ) (name other : List ℕ) (number place : ℕ) (reply answer : Result (List ℕ) DiskFault)
    → name ≡ other → number ≡ place → reply ≡ answer → IsRecordRead sectors faults old new user name number reply → IsRecordRead sectors faults old new user other place answer
read_as sectors faults old new user name other number place reply answer names numbers replies read =
    subst (IsRecordRead sectors faults old new user other place) replies
    (subst (λ n. IsRecordRead sectors faults old new user other n reply) numbers
    (subst (λ n. IsRecordRead sectors faults old new user n number reply) names read))

pub written_as : {S : Type 0} (sectors : S → Image) (faults : S → ℕ) (old new : Mounted S) (user : ℕ) (name other : List ℕ) (number place : ℕ) (bytes same : List ℕ) (reply answer : Result ⊤ DiskFault)
    → name ≡ other → number ≡ place → bytes ≡ same → reply ≡ answer → IsRecordWritten sectors faults old new user name number bytes reply → IsRecordWritten sectors faults old new user other place same answer
written_as sectors faults old new user name other number place bytes same reply answer names numbers contents replies written =
    subst (IsRecordWritten sectors faults old new user other place same) replies
    (subst (λ b. IsRecordWritten sectors faults old new user other place b reply) contents
    (subst (λ n. IsRecordWritten sectors faults old new user other n bytes reply) numbers
    (subst (λ n. IsRecordWritten sectors faults old new user n number bytes reply) names written)))

pub entered_as : {S : Type 0} (sectors : S → Image) (disk : Mounted S) (user : ℕ) (name other : List ℕ) (number place address : ℕ) (memory same : List ℕ)
    → name ≡ other → number ≡ place → memory ≡ same → with_extent_entry sectors disk user name number address memory ≡ with_extent_entry sectors disk user other place address same
entered_as sectors disk user name other number place address memory same names numbers memories =
    ap (λ n. with_extent_entry sectors disk user n number address memory) names
    ∙ ap (λ n. with_extent_entry sectors disk user other n address memory) numbers
    ∙ ap (with_extent_entry sectors disk user other place address) memories
