-- How the commands on images of disks end.
use Rattle.std.specs.Prelude.{◌≡◌, ◌≢◌, ◌⊎◌, ℕ, ◌+◌, Bool, true, false, ◌&&◌, not, List, [], ◌∷◌, ◌++◌, Option, None, Some, Result, Ok, Err, Vec, codes, find, length, map, option_map, slice_get, string_bytes, take, ◌<◌}
use Rattle.std.specs.Borrow.{Bor}
use Rattle.std.specs.Global.{Global}
use Rattle.std.specs.List.{AllZip, concat}
use Rattle.host.specs.Streams.Stream.{counted}
use Rattle.cpm_image.specs.declared.directory.attribute.Attribute.{Attribute}
use Rattle.cpm_image.specs.Image.{blank_image}
use Rattle.cpm_image.specs.declared.kind.DiskKind.{DiskKind}
use Rattle.cpm_image.specs.declared.kind.DiskKind.TheVariants.{EightInch, Megabyte}
use Rattle.z80dev_commands.specs.declared.job.Attribute as word
use Rattle.z80dev_commands.specs.declared.job.Attribute.TheVariants as words
use Rattle.z80dev_commands.specs.declared.job.Manner.{Manner}
use Rattle.z80dev_commands.specs.declared.job.DiskJob.{DiskJob}
use Rattle.z80dev_commands.specs.declared.job.DiskJob.TheVariants as on
use Rattle.z80dev_commands.specs.declared.job.Get.{Get}
use Rattle.z80dev_commands.specs.declared.job.Target.{Target}
use Rattle.z80dev_disk.specs.Changes.{IsErasedImage, IsMarkedImage, IsRenamedImage}
use Rattle.z80dev_disk.specs.Check.{IsCheck}
use Rattle.z80dev_disk.specs.Dir.{IsDir}
use Rattle.z80dev_disk.specs.Get.{IsGet, IsGetAll}
use Rattle.z80dev_disk.specs.Put.{IsPutImage as IsPutOn}
use Rattle.z80dev_disk.specs.Refusals.{refusal_text, unnamed}
use Rattle.z80dev_disk.specs.Text.{cpm_text}
use Rattle.z80dev_disk.specs.Words.{file_name_of, own_name, pattern_of}
use Rattle.z80dev_disk.specs.declared.getting.Gotten.{Gotten}
use Rattle.z80dev_disk.specs.declared.refusal.Refusal.{Refusal}
use Rattle.host.specs.Answers.{MemoryAside}
use Rattle.host.specs.Files.{Adds, FailsSo, File, Folder, IsLockWanted, IsToBeKept, Places, Replaced, ReplacedOrNot, after_asking, locked_by, spent}
use Rattle.host.specs.declared.end.End.{End}
use Rattle.host.specs.declared.end.End.TheVariants as end
use Rattle.host.specs.Ending.{CarriesOut, Effect, LineAt, NothingDone, Refuses, UnlessRefused, With, WithAll, over_text}
use Rattle.host.specs.SamePath.{is_same_path}
use Rattle.host.specs.Claims.{warnings, HasClaimed, IsNotClaimed, KeepsFile}
use Rattle.host.specs.Paths.{names_no_image}
use Rattle.cpm_image.specs.declared.directory.entry.TheConstants.{USERS}

-- A command ends, with its warnings on standard error if all is done.
abbrev pub Warns : (Option (List ℕ) → End → Type 0) → Option (List ℕ) → End → Type 0
Warns Ends line e = (wanted : Option (List ℕ)) × LineAt e line wanted × Ends wanted e

-- ---- words that name files on a disk

-- `error: BadName(WORD)`, of a word among several
abbrev pub bad_name : List ℕ → List ℕ
bad_name word = codes "BadName(" ++ word ++ codes ")"

-- If the word is the name of a file, the command continues with that name; if not, it refuses it, before any file is read.
abbrev pub Named : Option (List ℕ) → (List ℕ → Type 0) → Effect → End → Type 0
Named (Some name) Does x e = Does name
Named None Does x e = Refuses (codes "BadName") x e

-- The same for several words: the first that is no name is refused, with the word in the text.
abbrev pub NamedAll : (List ℕ → Option (List ℕ)) → List (List ℕ) → (List (List ℕ) → Type 0) → Effect → End → Type 0
NamedAll name_in words Does x e =
    ((names : List (List ℕ)) × AllZip (λ word name. name_in word ≡ Some name) words names × Does names)
    ⊎ ((n : ℕ) × (word : List ℕ) × (names : List (List ℕ)) × (slice_get words n ≡ Some word) × AllZip (λ w name. name_in w ≡ Some name) (take n words) names × (name_in word ≡ None) × Refuses (bad_name word) x e)
    ⊎ ((e ≡ end.NoMemory) × NothingDone x)

-- ---- an image that is claimed

-- The image is locked and then read, and the command continues with its bytes and with whether the lock is held, on the files as they are then;
-- or it is not, which is the end.
abbrev pub Claiming : List ℕ → Bool → (List ℕ → Bool → Effect → Type 0) → Effect → End → Type 0
Claiming path wanted Does x e =
    ((bytes : List ℕ) × (is_held : Bool) × (claimed : Folder) × HasClaimed x.old claimed path wanted is_held bytes × Does bytes is_held (record x { old = claimed }))
    ⊎ (IsNotClaimed x.old x.new path wanted e × (x.after ≡ x.before))

-- How a command ends that only keeps an image.
abbrev pub KeepsImage : List ℕ → List ℕ → List ℕ → Effect → End → Type 0
KeepsImage path bytes made x end.Done = (x.after ≡ x.before) × KeepsFile path bytes made x.old x.new (Ok tt)
KeepsImage path bytes made x (end.File at last) = (x.after ≡ x.before) × KeepsFile path bytes made x.old x.new (Err (end.File at last))
KeepsImage path bytes made x end.NoMemory = NothingDone x
KeepsImage path bytes made x _ = ⊥

-- An image is changed, or the change is refused and the image is as before.
abbrev pub IsChanged : List ℕ → List ℕ → Result (Vec ℕ Global) Refusal → Effect → End → Type 0
IsChanged path bytes (Ok made) x e = KeepsImage path bytes made.items x e
IsChanged path bytes (Err why) x e = Refuses (refusal_text why) x e

abbrev pub Changes : List ℕ → List ℕ → (Result (Vec ℕ Global) Refusal → Type 0) → Effect → End → Type 0
Changes path bytes Is x e = ((result : Result (Vec ℕ Global) Refusal) × Is result × IsChanged path bytes result x e) ⊎ ((e ≡ end.NoMemory) × NothingDone x)

-- A claimed image is changed, with warnings.
abbrev pub ChangesImage : Target → (List ℕ → Result (Vec ℕ Global) Refusal → Type 0) → Effect → Option (List ℕ) → End → Type 0
ChangesImage t Is x wanted e = Claiming t.image.now t.lock
    (λ bytes is_held y. (wanted ≡ warnings t.image.now (length bytes) (t.lock && not is_held)) × Changes t.image.now bytes (Is bytes) y e) x e

-- ---- the commands

-- `put`: the image is claimed, the file is read, and the image is replaced by one with the file in it.
abbrev pub as_put : Bool → List ℕ → List ℕ
as_put true file = cpm_text file
as_put false file = file

-- one file alone is refused without its name
abbrev pub without_name : Result (Vec ℕ Global) Refusal → Result (Vec ℕ Global) Refusal
without_name (Ok made) = Ok made
without_name (Err why) = Err (unnamed why)

abbrev pub PutEnds : Target → Manner → List ℕ → List ℕ → Effect → Option (List ℕ) → End → Type 0
PutEnds t m path word x line e = Warns (λ wanted e. Named (file_name_of word) (λ name.
    Claiming t.image.now t.lock (λ bytes is_held y. (wanted ≡ warnings t.image.now (length bytes) (t.lock && not is_held))
    × With path (λ file. Changes t.image.now bytes (λ r. (s : Result (Vec ℕ Global) Refusal) × IsPutOn bytes t.user m.replace ((name, as_put m.text file) ∷ []) s × (r ≡ without_name s)) y e) y e) x e) x e) line e

-- `put --to`: the same of several files, each under its own name, all of them or none.
abbrev pub PutAllEnds : Target → Manner → List (List ℕ) → Effect → Option (List ℕ) → End → Type 0
PutAllEnds t m paths x line e = Warns (λ wanted e. NamedAll own_name paths (λ names.
    Claiming t.image.now t.lock (λ bytes is_held y. (wanted ≡ warnings t.image.now (length bytes) (t.lock && not is_held))
    × WithAll paths (λ files. (puts : List (List ℕ × List ℕ)) × (map (λ p. p.0) puts ≡ names) × (map (λ p. p.1) puts ≡ map (as_put m.text) files)
    × Changes t.image.now bytes (IsPutOn bytes t.user m.replace puts) y e) y e) x e) x e) line e

-- `erase`, `rename`, `protect` and `unprotect`
abbrev pub EraseEnds : Target → List (List ℕ) → Effect → Option (List ℕ) → End → Type 0
EraseEnds t words x line e = Warns (λ wanted e. NamedAll pattern_of words (λ patterns. ChangesImage t (λ bytes. IsErasedImage bytes t.user patterns) x wanted e) x e) line e

abbrev pub RenameEnds : Target → List ℕ → List ℕ → Effect → Option (List ℕ) → End → Type 0
RenameEnds t old new x line e = Warns (λ wanted e. Named (file_name_of old) (λ from. Named (file_name_of new) (λ to. ChangesImage t (λ bytes. IsRenamedImage bytes t.user from to) x wanted e) x e) x e) line e

abbrev pub attribute_of : word.Attribute → Attribute
attribute_of words.ReadOnly = Attribute.ReadOnly
attribute_of words.System = Attribute.System

abbrev pub ProtectEnds : Target → word.Attribute → Bool → List (List ℕ) → Effect → Option (List ℕ) → End → Type 0
ProtectEnds t attribute on words x line e = Warns (λ wanted e. NamedAll pattern_of words (λ patterns. ChangesImage t (λ bytes. IsMarkedImage bytes t.user (attribute_of attribute) on patterns) x wanted e) x e) line e

-- An image is read that the command does not change, with warnings.
abbrev pub ReadsImage : List ℕ → (List ℕ → Type 0) → Effect → Option (List ℕ) → End → Type 0
ReadsImage image Does x wanted e = With image (λ bytes. (wanted ≡ warnings image (length bytes) false) × Does bytes) x e

-- `dir`: the files are listed, those of a name if one is given.
abbrev pub NamedIfGiven : Option (Bor (List ℕ)) → (Option (List ℕ) → Type 0) → Effect → End → Type 0
NamedIfGiven None Does x e = Does None
NamedIfGiven (Some word) Does x e = Named (pattern_of word.now) (λ pattern. Does (Some pattern)) x e

abbrev pub DirEnds : List ℕ → Option ℕ → Bool → Option (Bor (List ℕ)) → Effect → Option (List ℕ) → End → Type 0
DirEnds image user long name x line e = Warns (λ wanted e. NamedIfGiven name (λ pattern.
    ReadsImage image (λ bytes. CarriesOut image (MemoryAside (IsDir bytes (record { user = user; pattern = pattern; long = long }))) x e) x wanted e) x e) line e

-- `check-disk`
abbrev pub CheckDiskEnds : List ℕ → Effect → Option (List ℕ) → End → Type 0
CheckDiskEnds image x line e = Warns (λ wanted e. ReadsImage image (λ bytes. CarriesOut image (MemoryAside (IsCheck bytes)) x e) x wanted e) line e

-- Files are written into a folder, each under its own name, in their order. The first that cannot be written is the end.
abbrev pub path_in : List ℕ → Gotten → File
path_in folder g = (folder ++ 47 ∷ string_bytes g.name, g.bytes.items)

abbrev pub WritesInto : List ℕ → List Gotten → Effect → End → Type 0
WritesInto folder files x end.Done = Adds x.old x.new (map (path_in folder) files) × (x.new.failures ≡ x.old.failures) × (x.after ≡ x.before)
WritesInto folder files x (end.Path path) = (n : ℕ) × (g : Gotten) × (slice_get files n ≡ Some g) × (string_bytes path ≡ (path_in folder g).0)
    × (Adds x.old x.new (map (path_in folder) (take n files)) ⊎ Adds x.old x.new (map (path_in folder) (take (n + 1) files))) × (x.new.failures ≡ counted x.old.failures) × (x.after ≡ x.before)
WritesInto folder files x end.NoMemory = NothingDone x
WritesInto folder files x _ = ⊥

-- why no file may come to these paths: the first of them that names the image that is read
abbrev pub over_image : List ℕ → List (List ℕ) → Option (List ℕ)
over_image image paths = option_map over_text (find (λ path. is_same_path path image) paths)

-- the path of each file in a folder
abbrev pub gotten_paths : List ℕ → List Gotten → List (List ℕ)
gotten_paths folder files = map (λ g. (path_in folder g).0) files

-- The files come into the folder, unless one would be written over the image: then none is written.
abbrev pub IsWrittenInto : List ℕ → List ℕ → Result (Vec Gotten Global) Refusal → Effect → End → Type 0
IsWrittenInto image folder (Ok files) x e = UnlessRefused (over_image image (gotten_paths folder files.items)) (WritesInto folder files.items x e) x e
IsWrittenInto image folder (Err why) x e = Refuses (refusal_text why) x e

-- A folder has a path that is not empty: with an empty one, files would come into the root.
abbrev pub IsNoFolder : Effect → End → Type 0
IsNoFolder x (end.File at last) = (at.now ≡ []) × (last.now ≡ []) × NothingDone x
IsNoFolder x _ = ⊥

abbrev pub InFolder : List ℕ → Type 0 → Effect → End → Type 0
InFolder folder Rest x e = ((folder ≢ []) × Rest) ⊎ ((folder ≡ []) × IsNoFolder x e)

-- `get` of all files that match a pattern
abbrev pub GetsMatching : List ℕ → ℕ → Bool → List ℕ → List ℕ → Effect → Option (List ℕ) → End → Type 0
GetsMatching image user text pattern folder x wanted e = ReadsImage image (λ bytes. (r : Result (Vec Gotten Global) Refusal) × IsGetAll bytes user pattern text r × IsWrittenInto image folder r x e) x wanted e

abbrev pub GetsInto : List ℕ → ℕ → Bool → List ℕ → List ℕ → Effect → Option (List ℕ) → End → Type 0
GetsInto image user text pattern folder x wanted e = InFolder folder (GetsMatching image user text pattern folder x wanted e) x e

-- `get --all`
abbrev pub GetAllEnds : List ℕ → ℕ → Bool → List ℕ → Effect → Option (List ℕ) → End → Type 0
GetAllEnds image user text folder x line e = Warns (λ wanted e. GetsInto image user text (codes "???????????") folder x wanted e) line e

-- the file of a name, at a path
abbrev pub GetsTo : List ℕ → List ℕ → ℕ → Bool → List ℕ → Effect → Option (List ℕ) → End → Type 0
GetsTo name image user text path x wanted e = ReadsImage image (λ bytes. CarriesOut path (MemoryAside (IsGet bytes user name text)) x e) x wanted e

-- `get`: the file of a name, unless it would overwrite the image; or into a folder all that match, if the word has `?` or `*`
abbrev pub GetsNamed : Option (List ℕ) → List ℕ → ℕ → Bool → List ℕ → List ℕ → Effect → Option (List ℕ) → End → Type 0
GetsNamed (Some name) image user text word path x wanted e = UnlessRefused (over_image image (path ∷ [])) (GetsTo name image user text path x wanted e) x e
GetsNamed None image user text word path x wanted e = Named (pattern_of word) (λ pattern. GetsInto image user text pattern path x wanted e) x e

abbrev pub GetEnds : Get → Effect → Option (List ℕ) → End → Type 0
GetEnds get x line e =
    Warns (λ wanted e. GetsNamed (file_name_of get.name.now) get.image.now get.user get.text get.name.now get.file.now x wanted e) line e

abbrev pub kind_of : Bool → DiskKind
kind_of true = Megabyte
kind_of false = EightInch

-- There is a file, which is to be kept: the blank image was written beside it and given up, which spends the lock, and nothing else is done.
abbrev pub GivesUp : List ℕ → Bool → Effect → Type 0
GivesUp image keep x = (x.new ≡ spent x.old) × (x.after ≡ x.before) × IsToBeKept x.old image keep

-- A blank image takes its place as a file that was written beside it and synced; with keep only if there is no file.
abbrev pub BlankIsMade : List ℕ → Bool → List ℕ → Effect → End → Type 0
BlankIsMade image keep made x end.Done = (x.after ≡ x.before) × Replaced (Places x.old x.new (image, made) keep) x.old x.new × (x.new.failures ≡ x.old.failures) × (x.new.part ≡ None)
BlankIsMade image keep made x (end.Refused said) = (string_bytes said ≡ codes "Exists") × GivesUp image keep x
BlankIsMade image keep made x (end.File at last) = (x.after ≡ x.before) × (at.now ≡ image) × (last.now ≡ []) × ReplacedOrNot (Places x.old x.new (image, made) keep) x.old x.new
BlankIsMade image keep made x end.NoMemory = NothingDone x ⊎ GivesUp image keep x
BlankIsMade image keep made x _ = ⊥

-- A path is not locked, though its lock was asked for; or since it is that of a program; or memory ran out, before the lock was asked for or in that.
abbrev pub IsNotLocked : Folder → Folder → List ℕ → End → Type 0
IsNotLocked old new path (end.File at last) = (at.now ≡ path) × (last.now ≡ []) × FailsSo (after_asking old) new × (names_no_image path ≡ false)
IsNotLocked old new path (end.Refused said) = (string_bytes said ≡ over_text path) × (new ≡ old) × (names_no_image path ≡ true)
IsNotLocked old new path end.NoMemory = (new ≡ old) ⊎ ((new ≡ after_asking old) × (names_no_image path ≡ false))
IsNotLocked old new path _ = ⊥

-- The lock may be taken of a path that is not that of a program.
abbrev pub MayLock : List ℕ → Bool → Bool → Type 0
MayLock path wanted is_held = IsLockWanted wanted is_held × (names_no_image path ≡ false)

-- The lock of a path is taken, whether or not it has a file, and the command continues with whether the lock is held, on the files as they are
-- then; or it is not, which is the end.
abbrev pub Locking : List ℕ → Bool → (Bool → Effect → Type 0) → Effect → End → Type 0
Locking path wanted Does x e =
    ((is_held : Bool) × MayLock path wanted is_held × Does is_held (record x { old = locked_by x.old path wanted is_held }))
    ⊎ (IsNotLocked x.old x.new path e × (x.after ≡ x.before))

-- `blank`: the path is locked; then the image is made.
abbrev pub BlankEnds : Bool → Bool → Bool → List ℕ → Effect → Option (List ℕ) → End → Type 0
BlankEnds mega keep lock image x line e = Warns (λ wanted e. Locking image lock (λ is_held y. (wanted ≡ warnings image 0 (lock && not is_held))
    × BlankIsMade image keep (concat (blank_image (kind_of mega))) y e) x e) line e

-- what each job on a disk does
abbrev pub DiskJobEnds : DiskJob → Effect → Option (List ℕ) → End → Type 0
DiskJobEnds (on.Dir dir) x line e = DirEnds dir.image.now dir.user dir.long dir.name x line e
DiskJobEnds (on.Put put) x line e = PutEnds put.target put.manner put.file.now put.name.now x line e
DiskJobEnds (on.PutAll put) x line e = PutAllEnds put.target put.manner (map (λ path. path.now) put.files.items) x line e
DiskJobEnds (on.Get get) x line e = GetEnds get x line e
DiskJobEnds (on.GetAll get) x line e = GetAllEnds get.image.now get.user get.text get.folder.now x line e
DiskJobEnds (on.Erase erase) x line e = EraseEnds erase.target (map (λ word. word.now) erase.names.items) x line e
DiskJobEnds (on.Rename rename) x line e = RenameEnds rename.target rename.old.now rename.new.now x line e
DiskJobEnds (on.Protect protect) x line e = ProtectEnds protect.target protect.attribute protect.on (map (λ word. word.now) protect.names.items) x line e
DiskJobEnds (on.Check image) x line e = CheckDiskEnds image.now x line e
DiskJobEnds (on.Blank blank) x line e = BlankEnds blank.mega blank.keep blank.lock blank.image.now x line e

-- the user whose files a job on a disk is about is one that has files
abbrev pub HasUser : DiskJob → Type 0
HasUser (on.Put put) = put.target.user < USERS
HasUser (on.PutAll put) = put.target.user < USERS
HasUser (on.Get get) = get.user < USERS
HasUser (on.GetAll get) = get.user < USERS
HasUser (on.Erase erase) = erase.target.user < USERS
HasUser (on.Rename rename) = rename.target.user < USERS
HasUser (on.Protect protect) = protect.target.user < USERS
HasUser _ = Unit {0}
