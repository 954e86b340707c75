use Rattle.std.proofs.Common.{length}
use Rattle.asm_line.specs.Tokens.{lexemes}
use Rattle.asm_line.specs.Lines.{BeginsTokens}
use Rattle.asm_line.proofs.scan.tokens.Given as goal

abbrev pub invariant-loop-start : goal.invariant-loop-start
invariant-loop-start l = BeginsTokens l.line (lexemes l.found.items) l.rest

abbrev pub decreases-loop-start : goal.decreases-loop-start
decreases-loop-start l = length l.rest
