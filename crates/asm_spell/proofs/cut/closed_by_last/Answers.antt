use Rattle.std.proofs.Common.{sym, ◌∙◌, arith}
use Rattle.asm_spell.proofs.Pieces.{closed_here}
use Rattle.asm_spell.proofs.cut.closed_by_last.Goals as goal

pub returns-then-depth-eq0 : goal.returns-then-depth-eq0
returns-then-depth-eq0 c = sym (c.loop-at.invariant.1 ∙ closed_here c.loop-at.depth c.loop-at.at c.args.tokens.now _ (omega arith) (sym c.open_behind-depth.ensures ∙ c.if-depth-eq0.true))
