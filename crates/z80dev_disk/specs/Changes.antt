-- What erasing, renaming and marking files does to a disk, and when it is refused.
use Rattle.std.specs.Prelude.{◌≡◌, ℕ, Bool, true, ◌&&◌, List, Result, Ok, Err, Vec, find, option_map, unwrap_or}
use Rattle.std.specs.Global.{Global}
use Rattle.cpm_image.specs.declared.kind.DiskKind.{DiskKind}
use Rattle.cpm_image.specs.Directory.Entries.{is_match, is_read_only}
use Rattle.cpm_image.specs.Directory.Letters.{letters, name_matches}
use Rattle.cpm_image.specs.Directory.Rules.{IsSound}
use Rattle.cpm_image.specs.declared.directory.attribute.Attribute.{Attribute}
use Rattle.cpm_image.specs.declared.directory.entry.Entry.{Entry}
use Rattle.cpm_image.specs.declared.directory.fault.DiskFault.{DiskFault}
use Rattle.cpm_image.specs.declared.directory.fault.DiskFault.TheVariants as fault
use Rattle.cpm_disk.specs.Steps.{after_erasure, after_marking, after_renaming, erasure, marking, renaming}
use Rattle.cpm_disk.specs.Calls.{Changed}
use Rattle.cpm_disk.specs.Files.{IsEither, IsMarkedFile, IsMatched, IsMoved, IsNoFile, OthersAreSame}
use Rattle.cpm_disk.specs.Image.{Image, directory}
use Rattle.z80dev_disk.specs.Along.{Along, IsRefusedAlong}
use Rattle.z80dev_disk.specs.Disks.{Edited}
use Rattle.z80dev_disk.specs.declared.refusal.Refusal.{Refusal}
use Rattle.z80dev_disk.specs.declared.refusal.Refusal.TheVariants as refusal

-- ---- erasing

-- The files of a user that match a pattern are erased: their entries are free, no such file is left, every other file is as before, and the
-- directory keeps its rules.
pub record Erases (kind : DiskKind) (user : ℕ) (pattern : List ℕ) (old new : Image) : Type 0 where
  pub count : ℕ
  pub may : erasure user pattern (directory kind old) ≡ Ok count
  pub changed : Changed kind old new (after_erasure user pattern (directory kind old))
  pub gone : (name : List ℕ) → name_matches pattern name ≡ true → IsNoFile kind new user name
  pub others : OthersAreSame kind old new (IsMatched user pattern)
  pub sound : IsSound kind (directory kind new)

abbrev pub StopsErasing : DiskKind → ℕ → List ℕ → Image → DiskFault → Type 0
StopsErasing kind user pattern old why = erasure user pattern (directory kind old) ≡ Err why

-- the letters of the name in the first entry for which p holds, or `otherwise` if there is no such entry
abbrev pub first_name : (Entry → Bool) → List Entry → List ℕ → List ℕ
first_name p entries otherwise = unwrap_or (option_map (λ e. letters e.name) (find p entries)) otherwise

-- The name that is reported with a refusal: for a read-only file the name in the first matching entry that is read-only, otherwise the
-- pattern.
abbrev pub refused_name : DiskKind → ℕ → List ℕ → Image → DiskFault → List ℕ
refused_name kind user pattern image fault.ReadOnly = first_name (λ e. is_match user pattern e && is_read_only e) (directory kind image) pattern
refused_name kind user pattern image _ = pattern

-- What `erase` answers: the image after the files that match each pattern in turn are erased; or why it is refused, and no image.
abbrev pub IsErasedImage : List ℕ → ℕ → List (List ℕ) → Result (Vec ℕ Global) Refusal → Type 0
IsErasedImage bytes user patterns result =
    Edited bytes (λ kind. Along (Erases kind user) patterns) (λ kind. IsRefusedAlong (Erases kind user) (StopsErasing kind user) (refused_name kind user) patterns) result

-- ---- renaming

-- A file of a user gets another name, every other file is as before, and the directory keeps its rules.
pub record Renames (kind : DiskKind) (user : ℕ) (from to : List ℕ) (old new : Image) : Type 0 where
  pub may : renaming user from to (directory kind old) ≡ Ok tt
  pub changed : Changed kind old new (after_renaming user from to (directory kind old))
  pub moved : IsMoved kind old new user from to
  pub others : OthersAreSame kind old new (IsEither user from to)
  pub sound : IsSound kind (directory kind new)

abbrev pub StopsRenaming : DiskKind → ℕ → List ℕ → List ℕ → Image → Refusal → Type 0
StopsRenaming kind user from to old (refusal.Disk why) = renaming user from to (directory kind old) ≡ Err why
StopsRenaming kind user from to old _ = ⊥

-- What `rename` answers: the image after the file is renamed; or why it is refused, and no image.
abbrev pub IsRenamedImage : List ℕ → ℕ → List ℕ → List ℕ → Result (Vec ℕ Global) Refusal → Type 0
IsRenamedImage bytes user from to result = Edited bytes (λ kind. Renames kind user from to) (λ kind. StopsRenaming kind user from to) result

-- ---- attributes

-- An attribute of the files of a user that match a pattern is set or cleared. The rest of these files and every other file are as before,
-- and the directory keeps its rules.
pub record Marks (kind : DiskKind) (user : ℕ) (attribute : Attribute) (on : Bool) (pattern : List ℕ) (old new : Image) : Type 0 where
  pub count : ℕ
  pub may : marking user pattern (directory kind old) ≡ Ok count
  pub changed : Changed kind old new (after_marking user pattern attribute on (directory kind old))
  pub marked : (name : List ℕ) → name_matches pattern name ≡ true → IsMarkedFile kind old new user name attribute on
  pub others : OthersAreSame kind old new (IsMatched user pattern)
  pub sound : IsSound kind (directory kind new)

abbrev pub StopsMarking : DiskKind → ℕ → List ℕ → Image → DiskFault → Type 0
StopsMarking kind user pattern old why = marking user pattern (directory kind old) ≡ Err why

-- The name that is reported with a refusal to mark files is always the pattern.
abbrev pub pattern_itself : List ℕ → Image → DiskFault → List ℕ
pattern_itself pattern image why = pattern

-- What `protect` and `unprotect` answer: the image after the attribute of the files that match each pattern in turn is set or cleared; or
-- why it is refused, and no image.
abbrev pub IsMarkedImage : List ℕ → ℕ → Attribute → Bool → List (List ℕ) → Result (Vec ℕ Global) Refusal → Type 0
IsMarkedImage bytes user attribute on patterns result =
    Edited bytes (λ kind. Along (Marks kind user attribute on) patterns) (λ kind. IsRefusedAlong (Marks kind user attribute on) (StopsMarking kind user) pattern_itself patterns) result
