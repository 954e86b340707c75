-- The files to which the entries of a directory belong.
use Rattle.std.specs.Prelude.{List, Contains, map, filter}
use Rattle.std.specs.List.{AllPairs}
use Rattle.cpm_image.specs.declared.directory.file.File.{File}
use Rattle.cpm_image.specs.Directory.Types.{Entry}
use Rattle.cpm_image.specs.Directory.Entries.{is_extent}
use Rattle.cpm_image.specs.Directory.Letters.{letters}
use Rattle.cpm_image.specs.Directory.Searches.{ComesBefore}

-- the file to which an entry belongs
abbrev pub file_of : Entry → File
file_of e = record { user = e.user; name = letters e.name }

-- the files to which the entries of users 0 to 31 belong, one for each entry
abbrev pub files_of : List Entry → List File
files_of entries = map file_of (filter is_extent entries)

-- `sorted` has the files of a list, each once, in order
pub record AreInOrder (files sorted : List File) : Type 0 where
  pub ordered : AllPairs (λ a b. ComesBefore a.user a.name b.user b.name) sorted
  pub every : (f : File) → Contains files f → Contains sorted f
  pub each : (f : File) → Contains sorted f → Contains files f
