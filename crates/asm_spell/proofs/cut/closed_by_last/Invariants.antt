use Rattle.std.proofs.Common.{◌≡◌, ◌≤◌, ◌+◌, drop}
use Rattle.asm_line.specs.Tokens.{lexemes}
use Rattle.asm_spell.specs.Operands.{closed_by_last}
use Rattle.asm_spell.proofs.cut.closed_by_last.Given as goal

abbrev pub invariant-loop-at : goal.invariant-loop-at
invariant-loop-at l = (l.depth ≤ l.at + 1) × (closed_by_last 1 (lexemes l.tokens) ≡ closed_by_last l.depth (lexemes (drop l.at l.tokens)))
