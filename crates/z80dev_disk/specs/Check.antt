-- What `check-disk` prints: a line for each entry of a directory that breaks a rule.
use Rattle.std.specs.Prelude.{◌≡◌, ◌⊎◌, ℕ, List, [], ◌∷◌, ◌++◌, Ok, Err, Option, codes, decimal, drop, length, option_map, slice_get, take}
use Rattle.std.specs.List.{concat, flat_map}
use Rattle.cpm_image.specs.Image.{IsImageOf}
use Rattle.cpm_image.specs.Kind.{sector_count}
use Rattle.cpm_image.specs.declared.fault.ImageFault.{ImageFault}
use Rattle.cpm_image.specs.declared.kind.DiskKind.{DiskKind}
use Rattle.cpm_image.specs.Directory.Letters.{letters}
use Rattle.cpm_image.specs.Directory.Rules.{AreBroken}
use Rattle.cpm_image.specs.declared.directory.broken.Broken.{Broken}
use Rattle.cpm_disk.specs.Image.{Image, directory}
use Rattle.host.specs.Answers as finish
use Rattle.z80dev_disk.specs.Disks.{refused}
use Rattle.z80dev_disk.specs.Names.{trimmed}
use Rattle.z80dev_disk.specs.Refusals.{disk_name, refusal_text}
use Rattle.z80dev_disk.specs.declared.refusal.Refusal.{Refusal}
use Rattle.z80dev_disk.specs.declared.refusal.Refusal.TheVariants as refusal

-- the line of a broken entry: `NUMBER USER NAME.TYP RULE`, with NUMBER from 0
abbrev pub broken_line : Broken → List ℕ
broken_line broken = concat ((decimal broken.number ++ codes " ") ∷ (decimal broken.entry.user ++ codes " ") ∷ trimmed (take 8 (letters broken.entry.name)) ∷ codes "."
    ∷ trimmed (drop 8 (letters broken.entry.name)) ∷ codes " " ∷ disk_name broken.fault ∷ (10 ∷ []) ∷ [])

-- the fault of the first broken entry, as a refusal
abbrev pub first_broken_rule : List Broken → Option Refusal
first_broken_rule broken = option_map (λ b. refusal.Disk b.fault) (slice_get broken 0)

-- All lines are printed, and then the first fault, if there is one, is reported.
abbrev pub checked : List Broken → finish.Answer
checked broken = record { files = []; printed = flat_map broken_line broken; said = option_map refusal_text (first_broken_rule broken) }

-- The answer is about exactly those entries of the image's directory that break a rule, in their order.
abbrev pub CheckOf : DiskKind → Image → finish.Answer → Type 0
CheckOf kind image answer = (broken : List Broken) × AreBroken kind (directory kind image) broken × (answer ≡ checked broken)

-- If the bytes are an image, its directory is checked; otherwise the reason why they are not an image is reported.
abbrev pub IsCheck : List ℕ → finish.Answer → Type 0
IsCheck bytes answer =
    ((kind : DiskKind) × (image : Image) × IsImageOf bytes (Ok image) × (length image ≡ sector_count kind) × CheckOf kind image answer)
    ⊎ ((why : ImageFault) × IsImageOf bytes (Err why) × (answer ≡ refused (refusal.Image why)))
