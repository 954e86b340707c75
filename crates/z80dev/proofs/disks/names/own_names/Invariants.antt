use Rattle.std.proofs.Common.{map, take, ◌≡◌, All, false}
use Rattle.z80dev_disk.specs.Words.{own_name, is_wild}
use Rattle.z80dev.specs.Private.Names.{AreNamed}
use Rattle.z80dev.proofs.disks.names.own_names.Given as goal

abbrev pub invariant-loop-path : goal.invariant-loop-path
invariant-loop-path l = AreNamed own_name (take l.path-index (map (λ w. w.now) l.paths)) l.names.items × All (λ name. is_wild name ≡ false) l.names.items
