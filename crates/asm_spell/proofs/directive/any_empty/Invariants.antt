use Rattle.std.proofs.Common.{◌≡◌, drop, map}
use Rattle.std.specs.List.{list_any}
use Rattle.asm_spell.specs.Line.{value_of}
use Rattle.asm_spell.specs.Directives.{is_empty_text}
use Rattle.asm_spell.proofs.directive.any_empty.Given as goal

abbrev pub invariant-loop-value : goal.invariant-loop-value
invariant-loop-value l = list_any is_empty_text (map value_of l.values) ≡ list_any is_empty_text (map value_of (drop l.value-index l.values))
