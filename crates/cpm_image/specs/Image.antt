-- The image of a disk: its sectors, each of 128 bytes, one after the other.
use Rattle.std.specs.Prelude.{◌≡◌, ◌≢◌, ◌<◌, ◌≤◌, ◌-◌, ◌*◌, ◌%◌, ◌==◌, ℕ, List, ◌++◌, All, length, replicate, Result, Ok, Err, if◌then◌else◌}
use Rattle.std.specs.List.{concat}
use Rattle.cpm_image.specs.Kind.{sector_count}
use Rattle.cpm_image.specs.declared.format.TheConstants.{BLANK, RECORD_BYTES}
use Rattle.cpm_image.specs.declared.fault.ImageFault.{ImageFault}
use Rattle.cpm_image.specs.declared.fault.ImageFault.TheVariants.{NotSectors, TooLong, NoMemory}
use Rattle.cpm_image.specs.declared.kind.DiskKind.{DiskKind}
use Rattle.cpm_image.specs.declared.kind.DiskKind.TheVariants.{EightInch, Megabyte}

-- the number of bytes in an image of a format
abbrev pub byte_count : DiskKind → ℕ
byte_count kind = RECORD_BYTES * sector_count kind

-- Exactly 1,048,576 bytes can only be a Megabyte disk, any other number only an eight inch one.
abbrev pub kind_of_bytes : List ℕ → DiskKind
kind_of_bytes bytes = if length bytes == byte_count Megabyte then Megabyte else EightInch

-- the bytes are whole sectors, and not more than a disk of the format has
abbrev pub AreBytesOfImage : DiskKind → List ℕ → Type 0
AreBytesOfImage kind bytes = (length bytes % RECORD_BYTES ≡ 0) × (length bytes ≤ byte_count kind)

-- The sectors that bytes are, padded with E5H, or the first reason why they are not an image. That memory ran out comes last.
abbrev pub IsImageOfKind : DiskKind → List ℕ → Result (List (List ℕ)) ImageFault → Type 0
IsImageOfKind kind bytes (Ok image) = AreBytesOfImage kind bytes
    × (length image ≡ sector_count kind)
    × All (λ sector. length sector ≡ RECORD_BYTES) image
    × (concat image ≡ bytes ++ replicate (byte_count kind - length bytes) BLANK)
IsImageOfKind kind bytes (Err NotSectors) = length bytes % RECORD_BYTES ≢ 0
IsImageOfKind kind bytes (Err TooLong) = (length bytes % RECORD_BYTES ≡ 0) × (byte_count kind < length bytes)
IsImageOfKind kind bytes (Err NoMemory) = AreBytesOfImage kind bytes

abbrev pub IsImageOf : List ℕ → Result (List (List ℕ)) ImageFault → Type 0
IsImageOf bytes result = IsImageOfKind (kind_of_bytes bytes) bytes result

-- the image of an empty disk
abbrev pub blank_image : DiskKind → List (List ℕ)
blank_image kind = replicate (sector_count kind) (replicate RECORD_BYTES BLANK)
