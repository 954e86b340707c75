-- File control blocks: drive, eleven bytes of name, EX, S1, S2, RC, sixteen bytes of blocks, CR at 32, R0 to R2.
-- (CP/M 2.2 Interface Guide, file control blocks.)
use Rattle.std.specs.Prelude.{◌+◌, ◌*◌, ◌==◌, ℕ, Bool, nat_le, List, Result, Ok, Err, take, drop, slice_index, if◌then◌else◌, ⊤}
use Rattle.std.specs.List.{list_any}
use Rattle.cpm_image.specs.declared.directory.layout.TheConstants.{EX_OFFSET, NAME_OFFSET, S2_OFFSET}
use Rattle.cpm_disk.specs.declared.control.fcb.TheConstants.{CR_OFFSET, FCB_BYTES, NEW_NAME_OFFSET, R0_OFFSET, R1_OFFSET, R2_OFFSET}
use Rattle.cpm_disk.specs.declared.control.stop.Stop.{Stop}
use Rattle.cpm_disk.specs.declared.control.stop.Stop.TheVariants as stop
use Rattle.cpm_disk.specs.Control.Bytes.{bytes_at}
use Rattle.cpm_disk.specs.Control.Stops.{unless_stopped}

abbrev pub fcb_at : ℕ → List ℕ → List ℕ
fcb_at address memory = bytes_at address FCB_BYTES memory

abbrev pub drive_of : List ℕ → ℕ
drive_of fcb = slice_index fcb 0

-- bytes 1 to 11, as in a directory entry
abbrev pub name_of : List ℕ → List ℕ
name_of fcb = take 11 (drop NAME_OFFSET fcb)

-- the second name of a rename, in bytes 17 to 27
abbrev pub new_name_of : List ℕ → List ℕ
new_name_of fcb = take 11 (drop NEW_NAME_OFFSET fcb)

abbrev pub extent_of : List ℕ → ℕ
extent_of fcb = slice_index fcb EX_OFFSET

abbrev pub s2_of : List ℕ → ℕ
s2_of fcb = slice_index fcb S2_OFFSET

abbrev pub current_of : List ℕ → ℕ
current_of fcb = slice_index fcb CR_OFFSET

-- R0 and R1, and R2
abbrev pub random_of : List ℕ → ℕ
random_of fcb = slice_index fcb R0_OFFSET + 256 * slice_index fcb R1_OFFSET

abbrev pub overflow_of : List ℕ → ℕ
overflow_of fcb = slice_index fcb R2_OFFSET

abbrev pub question : ℕ
question = 0x3F

-- Drives: 0 and 1 are A, 2 to 16 do not exist, and any other number is not a drive.
abbrev pub drive_judged : List ℕ → Result ⊤ Stop
drive_judged fcb =
    if nat_le (drive_of fcb) 1 then Ok tt
    else if nat_le (drive_of fcb) 16 then Err stop.UnknownDrive
    else Err stop.BadFcb

abbrev pub has_question : List ℕ → Bool
has_question name = list_any (λ b. b == question) name

-- no `?` is allowed in the name of one file
abbrev pub name_judged : List ℕ → Result ⊤ Stop
name_judged name = if has_question name then Err stop.BadFcb else Ok tt

-- what stops a call on a file before the disk is used: its drive, then its name
abbrev pub file_judged : List ℕ → Result ⊤ Stop
file_judged fcb = unless_stopped (drive_judged fcb) (name_judged (name_of fcb))

-- the same, and then the name that the file is to get
abbrev pub names_judged : List ℕ → Result ⊤ Stop
names_judged fcb = unless_stopped (file_judged fcb) (name_judged (new_name_of fcb))
