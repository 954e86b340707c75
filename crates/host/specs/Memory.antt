-- Files in memory.
use Rattle.std.specs.Prelude.{◌≢◌, ℕ, ◌+◌, ◌-◌, ◌^◌, All, Bool, true, ◌||◌, ◌&&◌, nat_eq, nat_lt, List, Option, None, Some, map, min, not, option_map}
use Rattle.std.specs.List.{filter}
use Rattle.std.specs.Borrow.{Bor}
use Rattle.host.specs.Files.{Claim, File, Folder, IsAt, Lock, Part, Placement, lock_of}
use Rattle.host.specs.declared.failing.Failure.{Failure}
use Rattle.host.specs.declared.memory.Lock as memory
use Rattle.host.specs.declared.memory.MemoryFiles.{MemoryFiles}
use Rattle.host.specs.declared.memory.Part as beside
use Rattle.host.specs.declared.memory.Written.{Written}

-- a file that was written, by its path
abbrev pub written_file : Written → File
written_file w = (w.path.items, w.bytes.items)

-- all that were written, the oldest first
abbrev pub files_of : MemoryFiles → List File
files_of m = map written_file m.written.items

-- those that were written otherwise than beside another
abbrev pub stored_files : List Written → List File
stored_files written = map written_file (filter (λ w. not w.is_part) written)

-- the lock that was taken, and the file that is written beside another
abbrev pub lock_in : memory.Lock → Lock
lock_in l = lock_of l.path.items l.is_held l.is_held

-- The files themselves show which bytes were read and written, so the tests accept all.
abbrev pub claim_in : List ℕ → Claim
claim_in path = record { path = path; accepts = λ _. true }

abbrev pub part_in : beside.Part → Part
part_in p = record { path = p.file.path.items; bytes = Some p.file.bytes.items; accepts = λ _. true; synced = p.is_synced }

abbrev pub placement_in : Bool → Placement
placement_in keep = record { accepts = λ _. true; keep = keep }

-- A host that tells its files: what is promised of the bytes of files is about these.
abbrev pub folder_of : MemoryFiles → Folder
folder_of m = record {
  files = Some (files_of m);
  stored = Some (stored_files m.written.items);
  failures = m.failures;
  replacements = m.replacements;
  gives = λ _ _. true;
  asks = m.asks;
  locked = option_map lock_in m.locked;
  claimed = option_map (λ path. claim_in path.items) m.claimed;
  is_spent = m.is_spent;
  part = option_map part_in m.part;
  placed = option_map placement_in m.placed;
}

-- The newest file of a path has these bytes; or there is none.
abbrev pub Finds : List File → List ℕ → Option (Bor (List ℕ)) → Type 0
Finds files path (Some bytes) = IsAt files path bytes.now
Finds files path None = All (λ file. file.0 ≢ path) files

-- Calls of two kinds are counted together. A count of 64 bits stays at its greatest.
abbrev pub together : ℕ → ℕ → ℕ
together own theirs = min (own + theirs) (2 ^ 64 - 1)

-- the files of a folder, with failures and locks asked for besides its own
abbrev pub with_failures : ℕ → ℕ → Folder → Folder
with_failures failures asks folder = record folder { failures = together failures folder.failures; asks = together asks folder.asks }

-- whether the call of this number, from 1 on, is one that fails
abbrev pub is_failing : Failure → ℕ → Bool
is_failing f n = nat_eq n f.call || (f.lasting && nat_lt f.call n)
