-- The settled items have the value of the whole, for `settled` as a function of the table and the tree.
use Rattle.std.proofs.Common.{◌≡◌, Ok, sym, ap, ◌∙◌, inl}
use Rattle.asm_expr.specs.Types.{Settled}
use Rattle.asm_parse.specs.Expression.{Expression}
use Rattle.asm_parse.specs.Source.{Operand}
use Rattle.asm_expr.specs.Names.{AreCounted, Table}
use Rattle.asm_expr.specs.Settling.{IsWorthOf, replaced, settled, worth_unknown}
use Rattle.asm_expr.proofs.Answers.{is_settled, unknown_worth}
use Rattle.asm_expr.proofs.Steps.{settled_worth}

pub worth_of_settled : (t : Table) → AreCounted t → (e : Expression Operand) (s : Settled) → settled t e ≡ Ok s → IsWorthOf t e s
worth_of_settled t counted e (Settled.Known items) is =
    let made = is_settled t e (Ok (Settled.Known items)) (inl (sym is)) in
    settled_worth t counted e items made.0 made.1
worth_of_settled t counted e (Settled.Unknown what) is =
    let made = is_settled t e (Ok (Settled.Unknown what)) (inl (sym is)) in
    unknown_worth t (replaced t e) made.1 ∙ ap worth_unknown (sym made.2)
