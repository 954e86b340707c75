-- How many jumps of a program are short and how many are long, counted in its sizes file and certificate.
use Rattle.std.specs.Prelude.{ℕ, ◌+◌, ◌-◌, ◌==◌, ◌&&◌, List, [], ◌∷◌, ◌++◌, Option, None, Some, Result, Ok, Err, codes, decimal, if◌then◌else◌}
use Rattle.zlink.specs.declared.building.Built.{Built}
use Rattle.zlink.specs.declared.fault.BuildFault.{BuildFault}
use Rattle.z80dev_make.specs.declared.jumps.Jumps.{Jumps}

-- 1 if the byte is a line feed and the next byte is this letter, otherwise 0
abbrev pub begins_line : ℕ → ℕ → List ℕ → ℕ
begins_line letter byte [] = 0
begins_line letter byte (next ∷ rest) = if (byte == 10) && (next == letter) then 1 else 0

-- how many lines of a file begin with a letter, without counting its first line
abbrev pub lines_with : ℕ → List ℕ → ℕ
lines_with letter [] = 0
lines_with letter (byte ∷ rest) = begins_line letter byte rest + lines_with letter rest

-- A line `J` of a sizes file is a relaxable jump, and a line `L` of a certificate is one of these that is long.
abbrev pub jumps_in : List ℕ → List ℕ → Jumps
jumps_in sizes cert = record { short = lines_with 0x4A sizes - lines_with 0x4C cert; long = lines_with 0x4C cert }

-- the jumps of a program that was built
abbrev pub jumps_of : Result Built BuildFault → Option Jumps
jumps_of (Ok b) = Some (jumps_in b.sizes.items b.cert.items)
jumps_of (Err fault) = None

-- how the jumps are printed: each short jump saves a byte, compared with a program whose jumps are all long
abbrev pub jumps_text : Jumps → List ℕ
jumps_text jumps =
    decimal jumps.short ++ (codes " " ++ ((if jumps.short == 1 then codes "jump" else codes "jumps") ++ (codes " short, " ++ (decimal jumps.long
    ++ (codes " long, " ++ (decimal jumps.short ++ (codes " " ++ ((if jumps.short == 1 then codes "byte" else codes "bytes") ++ codes " saved"))))))))
