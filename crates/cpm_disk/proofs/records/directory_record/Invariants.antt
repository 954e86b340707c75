use Rattle.std.proofs.Common.{◌≡◌, ◌<◌, ◌+◌, ◌*◌, ℕ, drop, take}
use Rattle.cpm_image.specs.Directory.Entries.{at, entry_of}
use Rattle.cpm_disk.proofs.records.directory_record.Given as goal

-- the first entries are in the bytes
abbrev pub invariant-loop-i : goal.invariant-loop-i
invariant-loop-i l = (j : ℕ) → j < l.i → entry_of (take 32 (drop (32 * j) l.bytes)) ≡ at l.entries (4 * l.record + j)
