use Rattle.std.proofs.Common.{map, take}
use Rattle.z80dev_disk.specs.Words.{pattern_of}
use Rattle.z80dev.specs.Private.Names.{AreNamed}
use Rattle.z80dev.proofs.disks.names.patterns_of.Given as goal

abbrev pub invariant-loop-word : goal.invariant-loop-word
invariant-loop-word l = AreNamed pattern_of (take l.word-index (map (λ w. w.now) l.words)) l.patterns.items
