use Rattle.std.proofs.Common.{◌≡◌, take}
use Rattle.asm_spell.specs.Line.{listed_names, name_texts}
use Rattle.asm_spell.proofs.directive.listed.Given as goal

abbrev pub invariant-loop-name : goal.invariant-loop-name
invariant-loop-name l = listed_names l.all.items ≡ name_texts (take l.name-index l.names)
