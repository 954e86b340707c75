-- Lemmas of `asm_parse`, passed on to the crates above.
pub use Rattle.asm_parse.proofs.Judgements.{and_parts}
pub use Rattle.asm_parse.proofs.Postfix.{one_expression, run-one, tree-postfix}
