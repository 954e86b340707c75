use Rattle.std.proofs.Common.{sym}
use Rattle.asm_expr.specs.Below.{source_tree}
use Rattle.asm_stmt.proofs.Unsized.{unsized}
use Rattle.asm_stmt.proofs.size.size_in.Goals as goal

pub returns-then-not-is_defined : goal.returns-then-not-is_defined
returns-then-not-is_defined c =
    sym (unsized c.args.names.now c.args.size.now (c.lacking.ensures c.args.names.now (source_tree c.args.size.now)) c.items.ensures.source
    (λ all. let told = c.is_defined.ensures.1 all in let is = c.if-not-is_defined.true in cc))
