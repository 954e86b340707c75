use Rattle.std.proofs.Common.{◌≡◌, drop, find, not}
use Rattle.z80dev_disk.specs.Names.{is_host_name}
use Rattle.z80dev_disk.proofs.getting.bad_file.Given as goal

abbrev pub invariant-loop-file : goal.invariant-loop-file
invariant-loop-file l = find (λ f. not (is_host_name f.name)) l.files ≡ find (λ f. not (is_host_name f.name)) (drop l.file-index l.files)
