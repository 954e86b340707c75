use Rattle.std.proofs.Common.{map, take}
use Rattle.std.specs.List.{AllZip}
use Rattle.z80dev_make.specs.Private.Shown.{shown_of}
use Rattle.z80dev_make.specs.Warned.{IsGivenAs}
use Rattle.z80dev_make.proofs.warning.all_told.Given as goal

abbrev pub invariant-loop-warning : goal.invariant-loop-warning
invariant-loop-warning l = AllZip (IsGivenAs (map shown_of l.sources)) (take l.warning-index l.found) l.all.items
