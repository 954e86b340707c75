-- The position of a file control block in its file: EX, S2 and CR. (CP/M 2.2 Interface Guide, sequential access.)
use Rattle.std.specs.Prelude.{◌+◌, ◌*◌, ◌%◌, ◌==◌, ◌||◌, ℕ, Bool, nat_lt, List, Option, Some, None, Result, Ok, Err, if◌then◌else◌, ⊤}
use Rattle.cpm_image.specs.Kind.{last_high}
use Rattle.cpm_image.specs.declared.directory.layout.TheConstants.{EXTENT_RECORDS, LAST_EXTENT, S2_RECORDS, S2_VALUES}
use Rattle.cpm_image.specs.declared.kind.DiskKind.{DiskKind}
use Rattle.cpm_image.specs.declared.kind.DiskKind.TheVariants.{EightInch, Megabyte}
use Rattle.cpm_disk.specs.declared.control.stop.Stop.{Stop}
use Rattle.cpm_disk.specs.declared.control.stop.Stop.TheVariants as stop
use Rattle.cpm_disk.specs.Control.Fcbs.{current_of, extent_of, s2_of}
use Rattle.cpm_bdos.specs.declared.records.place.Place.{Place}

abbrev pub place_of : List ℕ → Place
place_of fcb = record { extent = extent_of fcb; s2 = s2_of fcb; current = current_of fcb }

-- the number of the record at a position; an extent has 128 records, and on a Megabyte disk the low six bits of S2 count 32 extents each
abbrev pub record_at : DiskKind → Place → ℕ
record_at EightInch p = EXTENT_RECORDS * p.extent + p.current
record_at Megabyte p = S2_RECORDS * (p.s2 % S2_VALUES) + EXTENT_RECORDS * p.extent + p.current

-- whether EX is above 31, CR above 128 or, on a Megabyte disk, the low six bits of S2 above 15
abbrev pub is_bad : DiskKind → Place → Bool
is_bad EightInch p = nat_lt LAST_EXTENT p.extent || nat_lt EXTENT_RECORDS p.current
is_bad Megabyte p = (nat_lt LAST_EXTENT p.extent || nat_lt EXTENT_RECORDS p.current) || nat_lt (last_high Megabyte) (p.s2 % S2_VALUES)

abbrev pub place_judged : DiskKind → Place → Result ⊤ Stop
place_judged kind p = if is_bad kind p then Err stop.BadFcb else Ok tt

-- The beginning of the next extent, if there is one. After EX 31 that is EX 0 of the next S2, which exists only on a Megabyte disk.
abbrev pub next_high : DiskKind → Place → Option Place
next_high EightInch p = None
next_high Megabyte p = if nat_lt (p.s2 % S2_VALUES) (last_high Megabyte) then Some (record { extent = 0; s2 = p.s2 + 1; current = 0 }) else None

abbrev pub next_extent : DiskKind → Place → Option Place
next_extent kind p = if nat_lt p.extent LAST_EXTENT then Some (record { extent = p.extent + 1; s2 = p.s2; current = 0 }) else next_high kind p

-- the position of the next record: CR 128 becomes record 0 of the next extent
abbrev pub turned : DiskKind → Place → Option Place
turned kind p = if p.current == EXTENT_RECORDS then next_extent kind p else Some p
