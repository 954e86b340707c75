-- What is true of a disk while it is mounted.
use Rattle.std.specs.Prelude.{◌≡◌, ◌==◌, ◌&&◌, ℕ, Bool, false, IfSome, List, None, Option, Some, length}
use Rattle.std.specs.Str.{bytes_eq}
use Rattle.cpm_image.specs.Kind.{entry_count, sector_count}
use Rattle.cpm_image.specs.declared.kind.DiskKind.{DiskKind}
use Rattle.cpm_image.specs.declared.directory.entry.Entry.{Entry}
use Rattle.cpm_image.specs.Directory.Rules.{IsSound}
use Rattle.cpm_image.specs.Directory.Searches.{file_is_read_only}
use Rattle.cpm_disk.specs.Image.{Image, directory}
use Rattle.cpm_disk.specs.declared.writable.Writable.{Writable}

-- whether a file is the one that is known not to be read-only
abbrev pub is_known : ℕ → List ℕ → Option Writable → Bool
is_known user name (Some f) = (f.user == user) && bytes_eq f.name name
is_known user name None = false

-- The directory keeps its rules, even after a failure. Before a failure, the disk has the entries of the directory, and the file that it
-- remembers is not read-only by them.
pub record IsMounted (kind : DiskKind) (image : Image) (entries : List Entry) (failed : Bool) (writable : Option Writable) : Type 0 where
  pub count : length image ≡ sector_count kind
  pub sound : IsSound kind (directory kind image)
  pub size : length entries ≡ entry_count kind
  pub entries_are : failed ≡ false → entries ≡ directory kind image
  pub may_write : failed ≡ false → IfSome writable (λ f. file_is_read_only f.user f.name entries ≡ false)
