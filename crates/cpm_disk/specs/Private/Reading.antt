-- Directory entries that are read from a device.
use Rattle.std.specs.Prelude.{◌≡◌, ◌<◌, ◌+◌, ◌*◌, ℕ, List, length, take, drop}
use Rattle.cpm_image.specs.Device.{HasRisen}
use Rattle.cpm_image.specs.declared.directory.layout.TheConstants.{ENTRY_BYTES}
use Rattle.cpm_image.specs.declared.directory.entry.Entry.{Entry}
use Rattle.cpm_image.specs.declared.directory.fault.DiskFault.{DiskFault}
use Rattle.cpm_image.specs.declared.directory.fault.DiskFault.TheVariants as fault
use Rattle.cpm_image.specs.Directory.Entries.{at, entry_of}

-- the old entries, followed by the entries in `count` parts of 32 bytes
pub record Extended (old new : List Entry) (bytes : List ℕ) (count : ℕ) : Type 0 where
  pub size : length new ≡ length old + count
  pub kept : (k : ℕ) → k < length old → at new k ≡ at old k
  pub added : (i : ℕ) → i < count → at new (length old + i) ≡ entry_of (take ENTRY_BYTES (drop (ENTRY_BYTES * i) bytes))

-- why the entries are not read
abbrev pub IsReadFault : ℕ → ℕ → DiskFault → Type 0
IsReadFault before now fault.Fault = HasRisen before now
IsReadFault before now fault.NoMemory = now ≡ before
IsReadFault before now _ = ⊥
