use Rattle.std.proofs.Common.{Ok, sym, subst, arith}
use Rattle.asm_expr.specs.Types.{Meaning}
use Rattle.asm_expr.specs.Names.{IsCounted}
use Rattle.asm_parse.specs.Values.Postfix.{source_tree}
use Rattle.asm_expr.proofs.Answers.{is_settled}
use Rattle.asm_expr.proofs.Guards.{small}
use Rattle.asm_expr.proofs.Offsets.{no_fault}
use Rattle.asm_expr.proofs.Equates.{counted}
use Rattle.asm_expr.proofs.equating.equate.Goals as goal

pub size-size-requires : goal.size-size-requires
size-size-requires c =
    let t = c.args.names.now in
    let e = source_tree c.args.parsed.now in
    let s = c.in_ok-settled.settled in
    omega (arith, small t 0 e (no_fault t e s (is_settled t e (Ok s) c.in_ok-settled.ensures.settled)))

pub returns-then-not-is_constant-clause-counted : goal.returns-then-not-is_constant-clause-counted
returns-then-not-is_constant-clause-counted c =
    subst (λ s. IsCounted (Meaning.Equ (record { settled = s; size = c.size-size.result }))) (sym c.in_ok-shared.ensures)
    (counted c.args.names.now c.counted.ensures (source_tree c.args.parsed.now) c.in_ok-settled.settled c.size-size.result c.in_ok-settled.ensures.worth c.size-size.ensures)
