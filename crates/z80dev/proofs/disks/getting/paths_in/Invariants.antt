use Rattle.std.proofs.Common.{◌≡◌, map, string_bytes, take}
use Rattle.z80dev.specs.Disks.{path_in}
use Rattle.z80dev.proofs.disks.getting.paths_in.Given as goal

abbrev pub invariant-loop-file : goal.invariant-loop-file
invariant-loop-file l = map string_bytes l.paths.items ≡ take l.file-index (map (λ g. (path_in l.folder g).0) l.gotten)
