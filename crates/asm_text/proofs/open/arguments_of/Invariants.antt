use Rattle.std.proofs.Common.{◌≡◌, ◌≤◌, ◌-◌, drop, take}
use Rattle.asm_line.specs.Tokens.{lexemes}
use Rattle.asm_line.specs.Replacing.Pieces.{behind_all}
use Rattle.asm_text.proofs.open.arguments_of.Given as goal

abbrev pub invariant-loop-at : goal.invariant-loop-at
invariant-loop-at l = (l.at ≤ l.count) × (behind_all l.line (take l.count (lexemes l.tokens)) ≡ behind_all l.behind (take (l.count - l.at) (drop l.at (lexemes l.tokens))))

abbrev pub decreases-loop-at : goal.decreases-loop-at
decreases-loop-at l = l.count - l.at
