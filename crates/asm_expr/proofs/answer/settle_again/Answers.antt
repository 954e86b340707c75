use Rattle.std.proofs.Common.{◌≡◌, Option, Some, None, Result, Ok, Err, IfOk, IfSome, ap, sym, ◌∙◌}
use Rattle.asm_expr.specs.declared.answer.Settled.{Settled}
use Rattle.asm_expr.proofs.answer.settle_again.Goals as goal

-- what follows from a property of an answer holds of the answer too
of_answer : {E X : Type 0} (P Q : X → Type 0) (r : Result (Option X) E) → ((x : X) → P x → Q x) → IfOk r (λ answer. IfSome answer P) → IfOk r (λ answer. IfSome answer Q)
of_answer P Q (Ok (Some x)) f h = f x h
of_answer P Q (Ok None) f h = h
of_answer P Q (Err why) f h = h

pub returns-in-Some : goal.returns-in-Some
returns-in-Some c = of_answer _ _ c.again.result (λ expr same. c.in-Some.ensures.settled ∙ ap (λ items. Ok (Settled.Known items)) (sym same)) c.again.ensures
