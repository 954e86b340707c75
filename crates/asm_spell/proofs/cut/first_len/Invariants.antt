use Rattle.std.proofs.Common.{◌≡◌, ◌≤◌, ◌+◌, drop}
use Rattle.asm_line.specs.Tokens.{lexemes}
use Rattle.asm_spell.specs.Private.Cutting.{first_len}
use Rattle.asm_spell.proofs.cut.first_len.Given as goal

-- No more parentheses are open than tokens were read, and the comma is found among the tokens that are left.
abbrev pub invariant-loop-at : goal.invariant-loop-at
invariant-loop-at l = (l.depth ≤ l.at) × (first_len 0 (lexemes l.tokens) ≡ l.at + first_len l.depth (lexemes (drop l.at l.tokens)))
