use Rattle.std.proofs.Common.{arith, refl}
use Rattle.asm_stmt.proofs.Laying.{text_more}
use Rattle.asm_stmt.proofs.data.Laid.put_text.Goals as goal

pub returns : goal.returns
returns c = λ cells l. text_more cells c.args.text.now c.args.self.now _ (λ k. omega (arith, c.type_inv.text k)) l c.in_ok-extend_from_slice.ensures.items refl refl
