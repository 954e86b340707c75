use Rattle.std.proofs.Common.{◌≡◌, ◌++◌, map, take}
use Rattle.std.specs.List.{flat_map}
use Rattle.z80dev_make.specs.Private.Shown.{shown_of}
use Rattle.z80dev_make.specs.Warned.{warning_text}
use Rattle.z80dev_make.proofs.warned.put_all.Given as goal

abbrev pub invariant-loop-warning : goal.invariant-loop-warning
invariant-loop-warning l = l.out.items ≡ l.fn.out.items ++ flat_map (warning_text (map shown_of l.sources)) (take l.warning-index l.warnings)
