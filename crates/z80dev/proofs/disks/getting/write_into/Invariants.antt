use Rattle.std.proofs.Common.{◌≡◌, map, string_bytes, take}
use Rattle.z80dev.specs.Disks.{path_in}
use Rattle.z80dev.specs.Private.Images.{AreInto}
use Rattle.z80dev.proofs.disks.getting.write_into.Given as goal

abbrev pub invariant-loop-number : goal.invariant-loop-number
invariant-loop-number g l =
    AreInto l.folder (take l.number l.gotten) (g.F.Files.folder l.fn.files) (g.F.Files.folder l.files)
    × (map string_bytes l.paths.items ≡ map (λ x. (path_in l.folder x).0) l.gotten)
