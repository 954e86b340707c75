use Rattle.std.proofs.Common.{take}
use Rattle.std.specs.List.{AllZip}
use Rattle.link_errors.specs.Longs.{IsLongNote}
use Rattle.link_errors.proofs.longs.Named.reports.Given as goal

abbrev pub invariant-loop-jump : goal.invariant-loop-jump
invariant-loop-jump l = AllZip IsLongNote (take l.jump-index l.jumps) l.reports.items
