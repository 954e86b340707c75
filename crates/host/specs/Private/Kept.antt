-- What keeping a file in memory does.
use Rattle.std.specs.Prelude.{◌≡◌, ℕ, Bool, false, true, List, [], ◌∷◌, ◌++◌, None, Some, Result, Ok, Err}
use Rattle.std.specs.declared.alloc.AllocError.{AllocError}
use Rattle.host.specs.Files.{File, lock_of, spent}
use Rattle.host.specs.Memory.{written_file, files_of, folder_of, stored_files}
use Rattle.host.specs.declared.memory.MemoryFiles.{MemoryFiles}
use Rattle.host.specs.declared.memory.Written.{Written}

-- the file comes after those that there are; or memory is refused, and none comes
abbrev pub Keeps : MemoryFiles → MemoryFiles → File → Result Unit AllocError → Type 0
Keeps old new file (Ok _) = folder_of new ≡ record (folder_of old) { files = Some (files_of old ++ file ∷ []); stored = Some (stored_files old.written.items ++ file ∷ []) }
Keeps old new file (Err _) = folder_of new ≡ folder_of old

-- a copy of a file, which is not written beside another
abbrev pub Copies : File → Result Written AllocError → Type 0
Copies file (Ok w) = (written_file w ≡ file) × (w.is_part ≡ false)
Copies file (Err _) = Unit {0}

-- the lock of a path, which was asked for, is taken; or memory is refused, and it is not
abbrev pub TakesLock : MemoryFiles → MemoryFiles → List ℕ → Bool → Result Unit AllocError → Type 0
TakesLock old new path is_held (Ok _) = folder_of new ≡ record (folder_of old) { locked = Some (lock_of path is_held is_held); claimed = None; is_spent = false; part = None }
TakesLock old new path is_held (Err _) = folder_of new ≡ folder_of old

-- a file is kept beside another, which spends the lock; or memory is refused, and it is not
abbrev pub KeepsPart : MemoryFiles → MemoryFiles → File → Result Unit AllocError → Type 0
KeepsPart old new file (Ok _) = folder_of new ≡ record (spent (folder_of old)) { part = Some (record { path = file.0; bytes = Some file.1; accepts = λ _. true; synced = false }) }
KeepsPart old new file (Err _) = folder_of new ≡ folder_of old
