use Rattle.std.proofs.Common.{◌≡◌, ℕ, List, take}
use Rattle.std.specs.List.{list_any}
use Rattle.std.specs.Str.{bytes_eq}
use Rattle.asm_names.specs.Lines.{lines_of}
use Rattle.asm_module.specs.Holding.{listed}
use Rattle.asm_module.proofs.module_names.listed_by.Given as goal

abbrev pub invariant-loop-line : goal.invariant-loop-line
invariant-loop-line l = (name : List ℕ) → list_any (bytes_eq name) l.all ≡ list_any (bytes_eq name) (listed (lines_of (take l.line-index l.lines)))
