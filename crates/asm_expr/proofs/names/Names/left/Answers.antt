use Rattle.std.proofs.Common.{Some, sym, ap, subst, ◌∙◌, arith}
use Rattle.asm_expr.specs.Types.{Meaning}
use Rattle.asm_expr.specs.Private.Left.{IsLeftName}
use Rattle.asm_expr.proofs.Entries.{known_among, left_name}
use Rattle.asm_expr.proofs.names.Names.left.Goals as goal

pub returns-then-from-le-MOST_ITEMS : goal.returns-then-from-le-MOST_ITEMS
returns-then-from-le-MOST_ITEMS c =
    subst (λ t. IsLeftName t c.args.name.now c.in-Known.expr) c.self.view_is
    (left_name c.self.inside.entries.entries c.self.inside.here c.self.inside.statements c.args.name.now c.in_ok-entry.entry.now c.in-Known.expr c.in-Equ.equated.size
    (sym c.in_ok-entry.ensures.value)
    (c.in-Equ.is ∙ ap (λ s. Meaning.Equ (record { settled = s; size = c.in-Equ.equated.size })) c.in-Known.is)
    (omega (arith, c.from.ensures, c.if-from-le-MOST_ITEMS.true))
    (c.in-Some.is ∙ ap Some (c.if-count-len.true ∙ c.len.ensures))
    (known_among c.self.inside.statements c.self.inside.entries.entries c.in_ok-entry.entry.now c.self.invariant.1 c.in_ok-entry.ensures.member))
