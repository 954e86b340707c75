use Rattle.std.proofs.Common.{◌≡◌, drop}
use Rattle.std.specs.List.{list_any}
use Rattle.common.specs.Words.{is_reserved}
use Rattle.asm_spell.specs.Line.{listed_names}
use Rattle.asm_spell.proofs.spelling.any_reserved.Given as goal

abbrev pub invariant-loop-name : goal.invariant-loop-name
invariant-loop-name l = list_any is_reserved (listed_names l.names) ≡ list_any is_reserved (listed_names (drop l.name-index l.names))
