-- What a command reads: files by their paths, and standard input.
use Rattle.std.specs.Prelude.{◌≡◌, ◌⊎◌, ℕ, ◌≤◌, Bool, true, IfSome, List, [], Option, None, Some, Result, Ok, Err, Vec, length, map, option_map, slice_get, take}
use Rattle.std.specs.Borrow.{Bor}
use Rattle.std.specs.Global.{Global}
use Rattle.std.specs.List.{AllZip}
use Rattle.common.specs.declared.limits.TheConstants.{LONGEST_TEXT}
use Rattle.host.specs.declared.end.End.{End}
use Rattle.host.specs.declared.end.End.TheVariants as end
use Rattle.host.specs.Files.{Folder, FailsSo, IsAt, IsUnreadable}

-- The file of this path has these bytes, at most as many as a text may have. Of files that are not known, this says only that reading the path
-- may give them.
abbrev pub IsRead : Folder → List ℕ → List ℕ → Type 0
IsRead folder path bytes = (folder.gives path bytes ≡ true) × (length bytes ≤ LONGEST_TEXT) × IfSome folder.files (λ files. IsAt files path bytes)

-- A file is not read: the end names its path; or memory ran out.
abbrev pub IsNotRead : Folder → Folder → List ℕ → End → Type 0
IsNotRead old new path (end.File at last) = (at.now ≡ path) × (last.now ≡ []) × (((new ≡ old) × IsUnreadable old.files path) ⊎ FailsSo old new)
IsNotRead old new path end.NoMemory = new ≡ old
IsNotRead old new path _ = ⊥

abbrev pub ReadsFile : Folder → Folder → List ℕ → Result (Vec ℕ Global) End → Type 0
ReadsFile old new path (Ok bytes) = (new ≡ old) × IsRead old path bytes.items
ReadsFile old new path (Err e) = IsNotRead old new path e

abbrev pub bytes_in : Option (Vec ℕ Global) → Option (List ℕ)
bytes_in = option_map (λ bytes. bytes.items)

-- a file has these bytes, if its path is given
abbrev pub IsReadIfGiven : Folder → Option (Bor (List ℕ)) → Option (Vec ℕ Global) → Type 0
IsReadIfGiven folder None bytes = bytes ≡ None
IsReadIfGiven folder (Some path) bytes = (found : Vec ℕ Global) × (bytes ≡ Some found) × IsRead folder path.now found.items

abbrev pub IsNotReadIfGiven : Folder → Folder → Option (Bor (List ℕ)) → End → Type 0
IsNotReadIfGiven old new None e = ⊥
IsNotReadIfGiven old new (Some path) e = IsNotRead old new path.now e

-- One of the files is not read, and those before it are; or memory ran out.
abbrev pub IsOneNotRead : Folder → Folder → List (List ℕ) → End → Type 0
IsOneNotRead old new paths e =
    ((n : ℕ) × (path : List ℕ) × (texts : List (List ℕ)) × (slice_get paths n ≡ Some path) × AllZip (IsRead old) (take n paths) texts × IsNotRead old new path e)
    ⊎ ((e ≡ end.NoMemory) × (new ≡ old))

-- All of the files are read, in their order.
abbrev pub ReadsAll : Folder → Folder → List (List ℕ) → Result (Vec (Vec ℕ Global) Global) End → Type 0
ReadsAll old new paths (Ok texts) = (new ≡ old) × AllZip (IsRead old) paths (map (λ text. text.items) texts.items)
ReadsAll old new paths (Err e) = IsOneNotRead old new paths e

-- A reader as a promise sees it: the bytes that it has left, where they are known, whether it failed, how often it was read, and how many of
-- these reads a signal interrupted.
pub record Reader : Type 0 where
  pub left : Option (List ℕ)
  pub failed : Bool
  pub reads : ℕ
  pub interruptions : ℕ

abbrev pub reader_of : Option (List ℕ) → Bool → ℕ → ℕ → Reader
reader_of left failed reads interruptions = record { left = left; failed = failed; reads = reads; interruptions = interruptions }

-- a file is read if its path is given
abbrev pub ReadsIfGiven : Option (Bor (List ℕ)) → Folder → Folder → Result (Option (Vec ℕ Global)) End → Type 0
ReadsIfGiven path old new (Ok bytes) = (new ≡ old) × IsReadIfGiven old path bytes
ReadsIfGiven path old new (Err e) = IsNotReadIfGiven old new path e
