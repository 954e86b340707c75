-- Which bytes are the image of a disk, and the answers that a command gives about one.
use Rattle.std.specs.Prelude.{◌≡◌, ◌⊎◌, ℕ, false, List, [], ◌∷◌, None, Result, Ok, Err, Vec, length, ⊤}
use Rattle.std.specs.Global.{Global}
use Rattle.std.specs.List.{concat}
use Rattle.cpm_image.specs.Image.{IsImageOf}
use Rattle.cpm_image.specs.Kind.{sector_count}
use Rattle.cpm_image.specs.declared.kind.DiskKind.{DiskKind}
use Rattle.cpm_image.specs.Directory.Rules.{IsFirstFault, IsSound}
use Rattle.cpm_disk.specs.Calls.{Mounted}
use Rattle.cpm_disk.specs.Image.{Image, directory}
use Rattle.host.specs.Answers as finish
use Rattle.host.specs.declared.answer.Answer as made
use Rattle.host.specs.declared.answer.Kind.TheVariants as kind
use Rattle.z80dev_disk.specs.Refusals.{IsRefusalOf, RefusesNone, refusal_text}
use Rattle.z80dev_disk.specs.declared.refusal.Refusal.{Refusal}
use Rattle.z80dev_disk.specs.declared.refusal.Refusal.TheVariants as refusal

-- The bytes are an image of this format, and its directory keeps the rules.
pub record IsDisk (bytes : List ℕ) (kind : DiskKind) (image : Image) : Type 0 where
  pub is_image : IsImageOf bytes (Ok image)
  pub count : length image ≡ sector_count kind
  pub sound : IsSound kind (directory kind image)

-- Why bytes are not the image of a disk: they are not an image; or they are one, and this is the first fault of its directory.
abbrev pub IsDiskRefusal : List ℕ → Refusal → Type 0
IsDiskRefusal bytes (refusal.Image why) = IsImageOf bytes (Err why)
IsDiskRefusal bytes (refusal.Disk why) = (kind : DiskKind) × (image : Image) × IsImageOf bytes (Ok image) × (length image ≡ sector_count kind) × IsFirstFault kind (directory kind image) why
IsDiskRefusal bytes _ = ⊥

-- `Holds` is true of the refusal, or the refusal is that memory ran out.
abbrev pub UnlessMemory : (Refusal → Type 0) → Refusal → Type 0
UnlessMemory Holds refusal.NoMemory = ⊤
UnlessMemory Holds why = Holds why

-- the result of mounting: the disk whose image these bytes are, or why they are not one
abbrev pub IsMounted : List ℕ → Result (Mounted Image) Refusal → Type 0
IsMounted bytes (Ok disk) = (disk.failed ≡ false) × IsDisk bytes disk.kind disk.device
IsMounted bytes (Err why) = IsRefusalOf RefusesNone why × UnlessMemory (IsDiskRefusal bytes) why

-- the answer as a definition sees it
abbrev pub disk_answer : made.Answer Refusal → finish.Answer
disk_answer answer = finish.answer_by refusal_text answer

-- an answer that writes and prints nothing and reports this refusal
abbrev pub refused : Refusal → finish.Answer
refused why = finish.nothing (refusal_text why)

-- an answer that writes one file with these bytes
abbrev pub one_file : List ℕ → finish.Answer
one_file bytes = record { files = (kind.Given, bytes) ∷ []; printed = []; said = None }

-- If the bytes are the image of a disk, `Says` holds of that disk and the answer; otherwise the answer reports why they are not.
abbrev pub OfDisk : List ℕ → (DiskKind → Image → finish.Answer → Type 0) → finish.Answer → Type 0
OfDisk bytes Says answer =
    ((kind : DiskKind) × (image : Image) × IsDisk bytes kind image × Says kind image answer)
    ⊎ ((why : Refusal) × IsDiskRefusal bytes why × (answer ≡ refused why))

-- A command changes the disk whose image these bytes are. Either it is done, and the result is the new image, sector after sector; or it
-- is refused, with the reason and no image; or memory ran out.
abbrev pub Edited : List ℕ → (DiskKind → Image → Image → Type 0) → (DiskKind → Image → Refusal → Type 0) → Result (Vec ℕ Global) Refusal → Type 0
Edited bytes Does Stops (Ok made) = (kind : DiskKind) × (old new : Image) × IsDisk bytes kind old × Does kind old new × (made.items ≡ concat new)
Edited bytes Does Stops (Err why) = UnlessMemory (λ w. IsDiskRefusal bytes w ⊎ ((kind : DiskKind) × (old : Image) × IsDisk bytes kind old × Stops kind old w)) why
