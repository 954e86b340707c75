use Rattle.std.proofs.Common.{◌≡◌, drop, find, map, string_bytes}
use Rattle.host.specs.SamePath.{is_same_path}
use Rattle.z80dev.proofs.disks.getting.first_over.Given as goal

abbrev pub invariant-loop-path : goal.invariant-loop-path
invariant-loop-path l = find (λ path. is_same_path path l.image) (map string_bytes (drop l.path-index l.paths)) ≡ find (λ path. is_same_path path l.image) (map string_bytes l.paths)
