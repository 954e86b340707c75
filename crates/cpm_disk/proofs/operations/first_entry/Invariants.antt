use Rattle.std.proofs.Common.{◌≡◌, drop, find}
use Rattle.cpm_image.specs.Directory.Entries.{is_of}
use Rattle.cpm_disk.proofs.operations.first_entry.Given as goal

-- the entry is not among those tested so far
abbrev pub invariant-loop-entry : goal.invariant-loop-entry
invariant-loop-entry l = find (is_of l.user l.name) l.entries ≡ find (is_of l.user l.name) (drop l.entry-index l.entries)
