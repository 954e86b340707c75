use Rattle.std.proofs.Common.{ap, not, ◌∙◌}
use Rattle.asm_line.specs.Tokens.{lexemes}
use Rattle.asm_spell.specs.Faults.{each}
use Rattle.asm_spell.specs.Operands.{written_operand}
use Rattle.asm_spell.specs.Private.Cutting.{holds, with_others}
use Rattle.asm_spell.proofs.Read.{too_many}
use Rattle.asm_spell.proofs.instruction.with_more.Goals as goal

pub returns : goal.returns
returns c =
    ap (λ ps. with_others c.args.mnemonic (holds c.args.left) (each written_operand ps)) c.first_operand.ensures.pieces
    ∙ too_many c.spelled.ensures.few c.args.mnemonic (holds c.args.left) (lexemes c.first_operand.result.0.now) c.first_operand.result.1 _ _ (c.is_none.ensures ∙ ap not c.if-is_none.false) c.in_ok-right.ensures c.in_ok-_others.ensures
