use Rattle.std.proofs.Common.{arith, subst, Ok}
use Rattle.std.proofs.lemmas.Result.{err_from_is_err_and}
use Rattle.asm_macro.specs.Private.Moves.{Gives, Lessens, next_move, rest_of}
use Rattle.asm_macro.proofs.Remaining.{goes_some, goes_err, leads_on}
use Rattle.asm_macro.proofs.expansion.Expansion.go_on.Goals as goal

pub returns-in_err-given-clause-goes : goal.returns-in_err-given-clause-goes
returns-in_err-given-clause-goes c =
    let p = err_from_is_err_and c.from_residual.result c.from_residual.ensures.1 in
    rw (p.1, p.2) (goes_err (rest_of c.args.self.now) (rest_of c.loop-given.self) (rest_of c.step.new.self) (rest_of c.step.new.self) c.step.new.buffer.items c.in_err-given.field-0.0 c.loop-given.invariant.2 c.in_err-given.ensures.gives)

pub returns-in-Some-clause-goes : goal.returns-in-Some-clause-goes
returns-in-Some-clause-goes c = goes_some (rest_of c.args.self.now) (rest_of c.loop-given.self) (rest_of c.step.new.self) c.step.new.buffer.items c.in-Some.given c.loop-given.invariant.2
    (subst (λ o. Gives c.step.new.buffer.items (Ok o) (rest_of c.step.new.self) (next_move (rest_of c.loop-given.self))) c.in-Some.is c.in_ok-given.ensures.gives)

pub loop-given-preserved : goal.loop-given-preserved
loop-given-preserved c =
    let gives = subst (λ o. Gives c.step.new.buffer.items (Ok o) (rest_of c.step.new.self) (next_move (rest_of c.loop-given.self))) c.in_default.is c.in_ok-given.ensures.gives in
    let less = subst (λ o. Lessens c.loop-given.self o c.step.new.self) c.in_default.is c.in_ok-given.ensures.less in
    (c.in_ok-given.ensures.sound, omega (arith, less.1, c.loop-given.invariant.1), leads_on (rest_of c.args.self.now) (rest_of c.loop-given.self) (rest_of c.step.new.self) c.step.new.buffer.items c.loop-given.invariant.2 gives, c.in_ok-given.ensures.kept)
