-- Images that are read, claimed and kept, and what a command warns of.
use Rattle.std.specs.Prelude.{◌≡◌, ◌≢◌, ◌⊎◌, ℕ, ◌==◌, Bool, true, false, ◌&&◌, not, List, [], ◌∷◌, ◌++◌, Option, None, Some, Result, Ok, Err, codes, decimal, if◌then◌else◌, length, option_map, string_bytes}
use Rattle.cpm_image.specs.Image.{byte_count}
use Rattle.cpm_image.specs.declared.kind.DiskKind.TheVariants.{EightInch, Megabyte}
use Rattle.host.specs.Files.{FailsSo, File, Folder, IsLockWanted, IsUnreadable, Places, Replaced, ReplacedOrNot, Test, after_asking, claimed_by}
use Rattle.host.specs.declared.end.End.{End}
use Rattle.host.specs.declared.end.End.TheVariants as end
use Rattle.host.specs.Ending.{over_text}
use Rattle.host.specs.Paths.{names_no_image}
use Rattle.host.specs.Reading.{IsRead, IsNotRead}
use Rattle.host.specs.declared.image.Image.{Image}

-- ---- warnings

-- An image is filled up if it has bytes, and not the number of bytes of a disk of either kind.
abbrev pub is_filled_up : ℕ → Bool
is_filled_up count = not (count == 0) && (not (count == byte_count EightInch) && not (count == byte_count Megabyte))

abbrev pub unlocked_line : List ℕ → List ℕ
unlocked_line path = codes "warning: " ++ path ++ codes " cannot be locked here: do not let another command change it meanwhile\n"

abbrev pub filled_up_line : List ℕ → ℕ → List ℕ
filled_up_line path count = (codes "warning: " ++ path ++ codes " has ") ++ (decimal count ++ codes " bytes and was filled up: an image of another system can look empty\n")

-- The lines that warn of an image of this length that is filled up, and of a lock that was wanted and is not held. There may be none.
abbrev pub warning_lines : List ℕ → ℕ → Bool → List ℕ
warning_lines path count is_unlocked = (if is_unlocked then unlocked_line path else []) ++ (if is_filled_up count then filled_up_line path count else [])

abbrev pub line_if_any : List ℕ → Option (List ℕ)
line_if_any [] = None
line_if_any (b ∷ rest) = Some (b ∷ rest)

abbrev pub warnings : List ℕ → ℕ → Bool → Option (List ℕ)
warnings path count is_unlocked = line_if_any (warning_lines path count is_unlocked)

-- ---- an image that is claimed

-- A file was locked and then read, and these bytes were read. Its path is not that of a program.
abbrev pub HasClaimed : Folder → Folder → List ℕ → Bool → Bool → List ℕ → Type 0
HasClaimed old new path wanted is_held bytes = (accepts : Test) × (new ≡ claimed_by old path wanted is_held accepts) × (accepts bytes ≡ true)
    × IsLockWanted wanted is_held × IsRead old path bytes × (names_no_image path ≡ false)

-- An image is not claimed, though its lock was asked for; or since its path is that of a program; or memory ran out, for that refusal, in the claim or
-- just after it.
abbrev pub IsNotClaimed : Folder → Folder → List ℕ → Bool → End → Type 0
IsNotClaimed old new path wanted (end.File at last) = (at.now ≡ path) × (last.now ≡ []) × (((new ≡ after_asking old) × IsUnreadable old.files path) ⊎ FailsSo (after_asking old) new) × (names_no_image path ≡ false)
IsNotClaimed old new path wanted (end.Refused said) = (string_bytes said ≡ over_text path) × (new ≡ old) × (names_no_image path ≡ true)
IsNotClaimed old new path wanted end.NoMemory = ((new ≡ old) × (names_no_image path ≡ true))
    ⊎ (((new ≡ after_asking old) × (names_no_image path ≡ false)) ⊎ ((is_held : Bool) × (bytes : List ℕ) × HasClaimed old new path wanted is_held bytes))
IsNotClaimed old new path wanted _ = ⊥

-- A claimed file is replaced by these bytes under its lock, unless it has them already: then it is not touched, and keeps its time.
abbrev pub KeepsFile : List ℕ → List ℕ → List ℕ → Folder → Folder → Result Unit End → Type 0
KeepsFile path bytes made old new (Ok _) = ((made ≡ bytes) × (new ≡ old))
    ⊎ ((made ≢ bytes) × Replaced (Places old new (path, made) false) old new × (new.failures ≡ old.failures) × (new.part ≡ None))
KeepsFile path bytes made old new (Err (end.File at last)) = (at.now ≡ path) × (last.now ≡ []) × (made ≢ bytes) × ReplacedOrNot (Places old new (path, made) false) old new
KeepsFile path bytes made old new (Err _) = ⊥

-- the lines that go with an image
abbrev pub image_lines : Image → Option (List ℕ)
image_lines image = option_map string_bytes image.warnings

abbrev pub ReadsImageFile : Folder → Folder → List ℕ → Result Image End → Type 0
ReadsImageFile old new path (Ok image) = (new ≡ old) × IsRead old path image.bytes.items × (image_lines image ≡ warnings path (length image.bytes.items) false)
ReadsImageFile old new path (Err e) = IsNotRead old new path e

abbrev pub ClaimsImage : Folder → Folder → List ℕ → Bool → Result Image End → Type 0
ClaimsImage old new path wanted (Ok image) = (is_held : Bool) × HasClaimed old new path wanted is_held image.bytes.items × (image_lines image ≡ warnings path (length image.bytes.items) (wanted && not is_held))
ClaimsImage old new path wanted (Err e) = IsNotClaimed old new path wanted e
