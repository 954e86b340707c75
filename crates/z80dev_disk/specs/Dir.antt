-- What `dir` prints: a line for each file that is asked for, by user and then by name.
use Rattle.std.specs.Prelude.{◌≡◌, ℕ, ◌*◌, ◌==◌, Bool, true, ◌&&◌, List, [], ◌∷◌, ◌++◌, Option, None, Some, codes, decimal, drop, filter, take}
use Rattle.std.specs.List.{concat, flat_map}
use Rattle.cpm_image.specs.declared.format.TheConstants.{RECORD_BYTES}
use Rattle.cpm_image.specs.declared.kind.DiskKind.{DiskKind}
use Rattle.cpm_image.specs.Directory.Letters.{name_matches}
use Rattle.cpm_image.specs.Directory.Searches.{IsListing, space_of, usage_of}
use Rattle.cpm_image.specs.declared.directory.count.Space.{Space}
use Rattle.cpm_image.specs.declared.directory.count.Usage.{Usage}
use Rattle.cpm_image.specs.declared.directory.fault.DiskFault.TheVariants as fault
use Rattle.cpm_image.specs.declared.directory.listing.Listed.{Listed}
use Rattle.cpm_disk.specs.Image.{Image, directory}
use Rattle.host.specs.Answers as finish
use Rattle.z80dev_disk.specs.Disks.{OfDisk, refused}
use Rattle.z80dev_disk.specs.Names.{trimmed, when}
use Rattle.z80dev_disk.specs.declared.listing.Asked.{Asked}
use Rattle.z80dev_disk.specs.declared.refusal.Refusal.TheVariants as refusal

-- ---- which files

-- whether a file belongs to the user that is asked for, or no user is asked for
abbrev pub is_users : Option ℕ → Listed → Bool
is_users None file = true
is_users (Some user) file = file.user == user

-- whether a file's name matches the pattern that is asked for, or no pattern is asked for
abbrev pub is_named : Option (List ℕ) → Listed → Bool
is_named None file = true
is_named (Some pattern) file = name_matches pattern file.name

abbrev pub is_asked : Option ℕ → Option (List ℕ) → Listed → Bool
is_asked user pattern file = is_users user file && is_named pattern file

-- ---- lines

-- ` BYTES ENTRIES BLOCKS`, where BYTES is 128 for each record below the file's size
abbrev pub usage_text : Listed → Usage → List ℕ
usage_text file usage = codes " " ++ (decimal (RECORD_BYTES * file.records) ++ (codes " " ++ (decimal usage.entries ++ (codes " " ++ decimal usage.blocks))))

-- `USER NAME.TYP RECORDS`, in a long listing ` BYTES ENTRIES BLOCKS`, then ` RO` if the file is read-only and ` SYS` if it is a system
-- file
abbrev pub dir_line : Bool → DiskKind → Image → Listed → List ℕ
dir_line long kind image file = concat ((decimal file.user ++ codes " ") ∷ trimmed (take 8 file.name) ∷ codes "." ∷ trimmed (drop 8 file.name) ∷ (codes " " ++ decimal file.records)
    ∷ when long (usage_text file (usage_of kind file.user file.name (directory kind image)))
    ∷ when file.read_only (codes " RO") ∷ when file.system (codes " SYS") ∷ (10 ∷ []) ∷ [])

-- the last line of a long listing: the blocks and entries that are free
abbrev pub space_line : Space → List ℕ
space_line space = concat (codes "free: " ∷ decimal space.blocks ∷ codes " blocks, " ∷ decimal space.entries ∷ codes " entries" ∷ (10 ∷ []) ∷ [])

-- ---- the answer

-- an answer that prints these lines and writes no file
abbrev pub printed_answer : List ℕ → finish.Answer
printed_answer lines = record { files = []; printed = lines; said = None }

-- the lines of these files, and in a long listing the line with the space that is left
abbrev pub dir_lines : Bool → DiskKind → Image → List Listed → List ℕ
dir_lines long kind image files = flat_map (dir_line long kind image) files ++ when long (space_line (space_of kind (directory kind image)))

-- A pattern that no file matches is refused.
abbrev pub dir_answer : Option (List ℕ) → Bool → DiskKind → Image → List Listed → finish.Answer
dir_answer (Some pattern) long kind image [] = refused (refusal.Named fault.NotFound pattern)
dir_answer pattern long kind image files = printed_answer (dir_lines long kind image files)

-- The answer lists the files of the disk's directory that are asked for.
abbrev pub DirOf : Asked → DiskKind → Image → finish.Answer → Type 0
DirOf asked kind image answer = (files : List Listed) × IsListing (directory kind image) files
    × (answer ≡ dir_answer asked.pattern asked.long kind image (filter (is_asked asked.user asked.pattern) files))

abbrev pub IsDir : List ℕ → Asked → finish.Answer → Type 0
IsDir bytes asked answer = OfDisk bytes (DirOf asked) answer
