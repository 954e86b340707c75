use Rattle.std.proofs.Common.{◌≡◌, ◌||◌, ℕ, List, take}
use Rattle.std.specs.List.{list_any}
use Rattle.std.specs.Str.{bytes_eq}
use Rattle.asm_spell.specs.Line.{listed_names}
use Rattle.asm_module.proofs.module_names.list_names.Given as goal

abbrev pub invariant-loop-name : goal.invariant-loop-name
invariant-loop-name l = (name : List ℕ) → list_any (bytes_eq name) l.listed ≡ (list_any (bytes_eq name) l.initial.listed || list_any (bytes_eq name) (listed_names (take l.name-index l.names)))
