use Rattle.std.proofs.Common.{◌≡◌, Option, Some, None, IfSome, sym}
use Rattle.asm_expr.proofs.Again.{alone_settled}
use Rattle.asm_expr.proofs.alone.left_alone.Goals as goal

if_some : {X : Type 0} (P Q : X → Type 0) (o : Option X) → ((x : X) → P x → Q x) → IfSome o P → IfSome o Q
if_some P Q (Some x) f h = f x h
if_some P Q None f h = h

pub returns-in-Some : goal.returns-in-Some
returns-in-Some c =
    record { settled = if_some _ _ c.left_of.result (λ expr left. alone_settled c.args.names.now c.args.parsed.now _ expr.now (sym c.in-Some.ensures) left) c.left_of.ensures }
