-- How images are read, claimed and kept.
use Rattle.std.specs.Prelude.{◌≡◌, ◌≢◌, ◌⊎◌, ℕ, Bool, List, Option, Some, Result, Ok, Err, String, Vec, map, option_map, slice_get, string_bytes, take, ◌+◌}
use Rattle.std.specs.Global.{Global}
use Rattle.host.specs.Streams.Stream.{Stream, counted}
use Rattle.z80dev_disk.specs.declared.getting.Gotten.{Gotten}
use Rattle.z80dev_disk.specs.declared.putting.PutFile.{PutFile}
use Rattle.z80dev_disk.specs.declared.refusal.Refusal.{Refusal}
use Rattle.host.specs.Files.{Adds, Folder, locked_by}
use Rattle.host.specs.declared.end.End.{End}
use Rattle.host.specs.declared.end.End.TheVariants as end
use Rattle.z80dev.specs.Disks.{IsChanged, IsNotLocked, MayLock, path_in}
use Rattle.host.specs.Ending.{effect_of}
use Rattle.host.specs.declared.image.Image.{Image}
use Rattle.host.specs.Claims.{image_lines}

abbrev pub LocksPath : Folder → Folder → List ℕ → Bool → Result Bool End → Type 0
LocksPath old new path wanted (Ok is_held) = (new ≡ locked_by old path wanted is_held) × MayLock path wanted is_held
LocksPath old new path wanted (Err e) = IsNotLocked old new path e

-- how a command ends that changes a claimed image
abbrev pub ChangesInto : List ℕ → Image → Result (Vec ℕ Global) Refusal → Folder → Folder → Result (Option (String Global)) End → Type 0
ChangesInto path image made old new (Ok line) = (option_map string_bytes line ≡ image_lines image) × ((o : Stream) → IsChanged path image.bytes.items made (effect_of old new o o) end.Done)
ChangesInto path image made old new (Err e) = (e ≢ end.Done) × ((o : Stream) → IsChanged path image.bytes.items made (effect_of old new o o) e)

-- files that are put, each with its name and its bytes
abbrev pub ArePuts : List (List ℕ) → List (List ℕ) → List PutFile → Type 0
ArePuts names texts puts = (map (λ p. p.name) puts ≡ names) × (map (λ p. p.bytes.now) puts ≡ texts)

-- files are written into a folder, in their order, up to the first that cannot be
abbrev pub AreInto : List ℕ → List Gotten → Folder → Folder → Type 0
AreInto folder gotten old new = Adds old new (map (path_in folder) gotten) × (new.failures ≡ old.failures)

abbrev pub WritesAll : List ℕ → List Gotten → Folder → Folder → Result Unit End → Type 0
WritesAll folder gotten old new (Ok _) = AreInto folder gotten old new
WritesAll folder gotten old new (Err (end.Path path)) = (n : ℕ) × (g : Gotten) × (slice_get gotten n ≡ Some g) × (string_bytes path ≡ (path_in folder g).0)
    × (Adds old new (map (path_in folder) (take n gotten)) ⊎ Adds old new (map (path_in folder) (take (n + 1) gotten))) × (new.failures ≡ counted old.failures)
WritesAll folder gotten old new (Err _) = ⊥
