use Rattle.std.proofs.Common.{◌≡◌, ◌++◌, ◌-◌, drop, length, get_or}
use Rattle.asm_spell.specs.Directives.{content, undoubled}
use Rattle.asm_spell.proofs.directive.content.Given as goal

-- The bytes written so far, and then the content of the rest, are the content of the string.
abbrev pub invariant-loop-at : goal.invariant-loop-at
invariant-loop-at l = content l.text ≡ l.bytes.items ++ undoubled (get_or l.text 0 0) (drop l.at l.text)

abbrev pub decreases-loop-at : goal.decreases-loop-at
decreases-loop-at l = length l.text - l.at
