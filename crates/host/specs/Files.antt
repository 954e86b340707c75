-- Files by their paths, and what reading and writing one does.
use Rattle.std.specs.Prelude.{◌≡◌, ◌≢◌, ◌⊎◌, ℕ, ◌<◌, ◌≤◌, Bool, true, false, All, IfSome, List, [], ◌∷◌, ◌++◌, Option, None, Some, Result, Ok, Err, Vec, length}
use Rattle.std.specs.Global.{Global}
use Rattle.common.specs.declared.limits.TheConstants.{LONGEST_TEXT}
use Rattle.host.specs.Streams.Stream.{counted}
use Rattle.host.specs.declared.streams.writing.WriteFailed.{WriteFailed}
use Rattle.host.specs.declared.files.Unread.{Unread}
use Rattle.host.specs.declared.files.Unread.TheVariants as unread
use Rattle.host.specs.declared.files.Claimed.{Claimed}
use Rattle.host.specs.declared.files.Placed.{Placed}
use Rattle.host.specs.declared.files.Placed.TheVariants as placed

-- a path, and the bytes of the file there
abbrev pub File : Type 0
File = List ℕ × List ℕ

-- A test of bytes. The calls that read a file or write one beside another say that a test accepts its bytes, and no other clause says so of any
-- bytes. So a command that works on other bytes cannot show that the test accepts them, even if the host does not tell what its files contain.
abbrev pub Test : Type 0
Test = List ℕ → Bool

-- A file that is written beside the one whose place it is to take: the path of that one, its own bytes, if they are known, a test that accepts
-- them, and whether they have reached the device.
pub record Part : Type 0 where
  pub path : List ℕ
  pub bytes : Option (List ℕ)
  pub accepts : Test
  pub synced : Bool

-- The path whose lock was taken, whether the lock was asked for, and whether it is held: it is not if the file system has no locks.
pub record Lock : Type 0 where
  pub path : List ℕ
  pub is_wanted : Bool
  pub is_held : Bool

-- the path of a file that was read under its lock, and a test that accepts the bytes that were read
pub record Claim : Type 0 where
  pub path : List ℕ
  pub accepts : Test

-- A file that took the place of another: a test that accepts its bytes, and whether the host was asked to keep a file that was there.
pub record Placement : Type 0 where
  pub accepts : Test
  pub keep : Bool

-- The files, if they are known, in the order in which they were written: of those with one path the last is the one that is there. The files that
-- were written otherwise than beside another, in their order, if the host tells that: one that does may still leave open what its files contain.
-- How often a call failed, and how often a file that was written beside another took its place. For each path a test that accepts the bytes that
-- reading it gives, which reading and locking do not change. How often a lock was asked for; the lock that was taken last; the file that was read
-- under it; and whether it is spent: a file was written beside another under it, or was to be. The file that is written beside another, and the
-- last that took the place of another.
pub record Folder : Type 0 where
  pub files : Option (List File)
  pub stored : Option (List File)
  pub failures : ℕ
  pub replacements : ℕ
  pub gives : List ℕ → Test
  pub asks : ℕ
  pub locked : Option Lock
  pub claimed : Option Claim
  pub is_spent : Bool
  pub part : Option Part
  pub placed : Option Placement

-- the file of this path has these bytes
abbrev pub IsAt : List File → List ℕ → List ℕ → Type 0
IsAt files path bytes = (before after : List File) × (files ≡ before ++ (path, bytes) ∷ after) × All (λ file. file.0 ≢ path) after

-- files, if they are known, grow by these
abbrev pub Grows : Option (List File) → Option (List File) → List File → Type 0
Grows None new more = Unit {0}
Grows (Some files) None more = ⊥
Grows (Some files) (Some others) more = others ≡ files ++ more

-- No lock is asked for: the one that was taken stays, and so does the file that was read under it.
abbrev pub StaysLocked : Folder → Folder → Type 0
StaysLocked old new = (new.asks ≡ old.asks) × (new.locked ≡ old.locked) × (new.claimed ≡ old.claimed)

-- Files are added by writing them, if any, and no other is written. Nothing else changes, apart from the count of failures and what reading gives.
abbrev pub Adds : Folder → Folder → List File → Type 0
Adds old new more = Grows old.files new.files more × Grows old.stored new.stored more × (new.replacements ≡ old.replacements) × StaysLocked old new
    × (new.is_spent ≡ old.is_spent) × (new.part ≡ old.part) × (new.placed ≡ old.placed)

-- the call failed, and changed nothing
abbrev pub FailsSo : Folder → Folder → Type 0
FailsSo old new = new ≡ record old { failures = counted old.failures }

-- There is no such file, or it is longer than a text may be.
abbrev pub IsUnreadable : Option (List File) → List ℕ → Type 0
IsUnreadable None path = ⊥
IsUnreadable (Some files) path = All (λ file. file.0 ≢ path) files ⊎ ((bytes : List ℕ) × IsAt files path bytes × (LONGEST_TEXT < length bytes))

-- Reading a file changes none. It gives the bytes of the file; or there is no file to be read, or the call failed; or memory ran out.
abbrev pub ReadsPath : Folder → Folder → List ℕ → Result (Vec ℕ Global) Unread → Type 0
ReadsPath old new path (Ok bytes) = (new ≡ old) × (old.gives path bytes.items ≡ true) × (length bytes.items ≤ LONGEST_TEXT) × IfSome old.files (λ files. IsAt files path bytes.items)
ReadsPath old new path (Err unread.File) = ((new ≡ old) × IsUnreadable old.files path) ⊎ FailsSo old new
ReadsPath old new path (Err unread.NoMemory) = new ≡ old

-- Writing a file: it is written; or the call failed, and the file is as before or as it should be.
abbrev pub Stores : Folder → Folder → File → Result Unit WriteFailed → Type 0
Stores old new file (Ok _) = Adds old new (file ∷ []) × (new.failures ≡ old.failures)
Stores old new file (Err _) = (Adds old new [] ⊎ Adds old new (file ∷ [])) × (new.failures ≡ counted old.failures)

-- ---- a file that is replaced

-- There is a file of this path, if files are known; or there is none.
abbrev pub IsThere : Option (List File) → List ℕ → Type 0
IsThere files path = IfSome files (λ known. (bytes : List ℕ) × IsAt known path bytes)

abbrev pub IsAbsent : Option (List File) → List ℕ → Type 0
IsAbsent files path = IfSome files (λ known. All (λ file. file.0 ≢ path) known)

abbrev pub lock_of : List ℕ → Bool → Bool → Lock
lock_of path is_wanted is_held = record { path = path; is_wanted = is_wanted; is_held = is_held }

-- the lock of a path was taken
abbrev pub HasLock : Folder → List ℕ → Type 0
HasLock f path = (is_wanted is_held : Bool) × (f.locked ≡ Some (lock_of path is_wanted is_held))

-- A lock that is not wanted is not held. One that is wanted need not be held: the file system may have no locks.
abbrev pub IsLockWanted : Bool → Bool → Type 0
IsLockWanted is_wanted is_held = is_wanted ≡ false → is_held ≡ false

-- the folder once a lock is asked for, also in vain
abbrev pub after_asking : Folder → Folder
after_asking old = record old { asks = counted old.asks }

-- The folder once the lock of a path is taken, which is not spent. A file that was read under an earlier lock is claimed no more, and a part of it
-- is given up.
abbrev pub locked_by : Folder → List ℕ → Bool → Bool → Folder
locked_by old path is_wanted is_held = record (after_asking old) { locked = Some (lock_of path is_wanted is_held); claimed = None; is_spent = false; part = None }

-- The lock of a path is asked for, whether or not there is a file. If it is held, no other program that asks for it gets it until this one ends,
-- takes another lock, or puts a file in place; of a path without a file, the host may say that it is held although there is nothing to lock.
abbrev pub Locks : Folder → Folder → List ℕ → Bool → Result Bool Unread → Type 0
Locks old new path is_wanted (Ok is_held) = (new ≡ locked_by old path is_wanted is_held) × IsLockWanted is_wanted is_held
Locks old new path is_wanted (Err unread.File) = FailsSo (after_asking old) new
Locks old new path is_wanted (Err unread.NoMemory) = new ≡ after_asking old

-- the folder once a file is locked and read
abbrev pub claimed_by : Folder → List ℕ → Bool → Bool → Test → Folder
claimed_by old path is_wanted is_held accepts = record (locked_by old path is_wanted is_held) { claimed = Some (record { path = path; accepts = accepts }) }

-- A file is locked and then read: it stays as it was read until this program replaces it, takes another lock, or ends. If it cannot be read, the
-- lock is not taken, but it was asked for. One call asks once, however often the host tries.
abbrev pub Claims : Folder → Folder → List ℕ → Bool → Result Claimed Unread → Type 0
Claims old new path is_wanted (Ok c) = (accepts : Test) × (new ≡ claimed_by old path is_wanted c.is_locked accepts) × (accepts c.bytes.items ≡ true)
    × IsLockWanted is_wanted c.is_locked × (old.gives path c.bytes.items ≡ true) × (length c.bytes.items ≤ LONGEST_TEXT) × IfSome old.files (λ files. IsAt files path c.bytes.items)
Claims old new path is_wanted (Err unread.File) = ((new ≡ after_asking old) × IsUnreadable old.files path) ⊎ FailsSo (after_asking old) new
Claims old new path is_wanted (Err unread.NoMemory) = new ≡ after_asking old

-- A file may be written beside that of a path: the lock of the path was taken and is not spent, and no part is there.
abbrev pub IsFree : Folder → List ℕ → Type 0
IsFree f path = HasLock f path × (f.is_spent ≡ false) × (f.part ≡ None)

-- the folder once the lock is spent
abbrev pub spent : Folder → Folder
spent old = record old { is_spent = true }

-- Bytes are written beside the file of a path, which no reader of that path sees. This spends the lock. If it fails, the lock may be spent or not, so
-- nobody may write again before the lock is taken again.
abbrev pub WritesBeside : Folder → Folder → List ℕ → List ℕ → Result Unit WriteFailed → Type 0
WritesBeside old new path bytes (Ok _) = (p : Part) × (new ≡ record (spent old) { part = Some p }) × (p.path ≡ path) × (p.accepts bytes ≡ true) × (p.synced ≡ false) × IfSome old.files (λ _. p.bytes ≡ Some bytes)
WritesBeside old new path bytes (Err _) = FailsSo old new ⊎ FailsSo (spent old) new

-- They reach the device. If they do not, the part may be gone.
abbrev pub Syncs : Folder → Folder → Part → Result Unit WriteFailed → Type 0
Syncs old new p (Ok _) = new ≡ record old { part = Some (record p { synced = true }) }
Syncs old new p (Err _) = FailsSo old new ⊎ FailsSo (record old { part = None }) new

-- a file may be put in place: it has reached the device, and the lock of its path was taken
pub record IsReady (f : Folder) (p : Part) : Type 0 where
  pub is : f.part ≡ Some p
  pub synced : p.synced ≡ true
  pub locked : HasLock f p.path

-- known files grow by one file; or by a part, if its bytes are known
abbrev pub GrowsBy : Folder → Folder → File → Type 0
GrowsBy old new file = Grows old.files new.files (file ∷ [])

abbrev pub GrowsByPart : Folder → Folder → Part → Type 0
GrowsByPart old new p = IfSome p.bytes (λ bytes. GrowsBy old new (p.path, bytes))

-- One file more took the place of another under its lock, no file was written otherwise, and no lock was asked for meanwhile; the first argument
-- says which file that is.
abbrev pub Replaced : Type 0 → Folder → Folder → Type 0
Replaced Placing old new = Placing × (new.replacements ≡ counted old.replacements) × (new.stored ≡ old.stored) × StaysLocked old new

-- A call failed: the file did not take its place, or did.
abbrev pub ReplacedOrNot : Type 0 → Folder → Folder → Type 0
ReplacedOrNot Placing old new = (new.failures ≡ counted old.failures) × (new.stored ≡ old.stored) × StaysLocked old new
    × ((Grows old.files new.files [] × (new.replacements ≡ old.replacements) × (new.placed ≡ old.placed)) ⊎ (Placing × (new.replacements ≡ counted old.replacements)))

-- The last file that took the place of another has these bytes, by its test, and a file that was there would have been kept, or not.
abbrev pub HasPlaced : Folder → List ℕ → Bool → Type 0
HasPlaced f bytes keep = (accepts : Test) × (f.placed ≡ Some (record { accepts = accepts; keep = keep })) × (accepts bytes ≡ true)

-- This file takes the place of another: known files grow by it, and with keep only if there was no file of its path.
abbrev pub Places : Folder → Folder → File → Bool → Type 0
Places old new file keep = GrowsBy old new file × HasPlaced new file.1 keep × (keep ≡ true → IsAbsent old.files file.0)

-- the same of a part
abbrev pub PlacesPart : Folder → Folder → Part → Bool → Type 0
PlacesPart old new p keep = GrowsByPart old new p × (new.placed ≡ Some (record { accepts = p.accepts; keep = keep })) × (keep ≡ true → IsAbsent old.files p.path)

-- There is a file, which is to be kept.
abbrev pub IsToBeKept : Folder → List ℕ → Bool → Type 0
IsToBeKept f path keep = (keep ≡ true) × IsThere f.files path

-- The part takes its place, and with keep only if there is no file. If the call fails, the file is as before or as it should be.
abbrev pub PutsInPlace : Folder → Folder → Part → Bool → Result Placed WriteFailed → Type 0
PutsInPlace old new p keep (Ok placed.Done) = Replaced (PlacesPart old new p keep) old new × (new.failures ≡ old.failures) × (new.part ≡ None)
PutsInPlace old new p keep (Ok placed.Exists) = (new ≡ record old { part = None }) × IsToBeKept old p.path keep
PutsInPlace old new p keep (Err _) = ReplacedOrNot (PlacesPart old new p keep) old new × ((new.part ≡ None) ⊎ (new.part ≡ old.part))

-- The file of a path is replaced by these bytes, and with keep only if there was none.
abbrev pub Replaces : Folder → Folder → File → Bool → Result Placed WriteFailed → Type 0
Replaces old new file keep (Ok placed.Done) = Replaced (Places old new file keep) old new × (new.failures ≡ old.failures) × (new.part ≡ None)
Replaces old new file keep (Ok placed.Exists) = (new ≡ spent old) × IsToBeKept old file.0 keep
Replaces old new file keep (Err _) = ReplacedOrNot (Places old new file keep) old new
