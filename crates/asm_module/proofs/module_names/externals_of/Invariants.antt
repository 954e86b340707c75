use Rattle.std.proofs.Common.{◌≡◌, map, take}
use Rattle.asm_names.specs.Meanings.{externals}
use Rattle.asm_module.proofs.module_names.externals_of.Given as goal

abbrev pub invariant-loop-at : goal.invariant-loop-at
invariant-loop-at l = map (λ name. name.items) l.externals.items ≡ externals (take l.at l.table)
