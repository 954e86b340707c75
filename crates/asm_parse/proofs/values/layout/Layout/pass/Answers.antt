use Rattle.std.proofs.Common.{arith}
use Rattle.asm_parse.specs.Private.Sums.{statements_of}
use Rattle.asm_parse.proofs.Sums.{pushed, summed}
use Rattle.asm_parse.proofs.values.layout.Layout.pass.Goals as goal

pub invariant_of-self-in-Sized : goal.invariant_of-self-in-Sized
invariant_of-self-in-Sized c =
    let inside = c.self.inside in
    let all = c.self.invariant.all in
    let are = summed inside.passed.items inside.end _ c.args.statement c.self.invariant
    (pushed (statements_of inside.passed.items) c.args.statement inside.end _ all (rw c.in-Sized.is (omega (arith, all.bytes))) (rw c.in-Sized.is (omega arith)) (rw c.in-Sized.is (omega arith))) in
    rw c.in_ok-push.ensures.items are

pub invariant_of-self-in-Relaxable : goal.invariant_of-self-in-Relaxable
invariant_of-self-in-Relaxable c =
    let inside = c.self.inside in
    let all = c.self.invariant.all in
    let are = summed inside.passed.items inside.end _ c.args.statement c.self.invariant
    (pushed (statements_of inside.passed.items) c.args.statement inside.end _ all (rw c.in-Relaxable.is (omega (arith, all.bytes))) (rw c.in-Relaxable.is (omega arith)) (rw c.in-Relaxable.is (omega arith))) in
    rw c.in_ok-push.ensures.items are

pub invariant_of-self-in-Unsized : goal.invariant_of-self-in-Unsized
invariant_of-self-in-Unsized c =
    let inside = c.self.inside in
    let all = c.self.invariant.all in
    let are = summed inside.passed.items inside.end _ c.args.statement c.self.invariant
    (pushed (statements_of inside.passed.items) c.args.statement inside.end _ all (rw c.in-Unsized.is (omega (arith, all.bytes))) (rw c.in-Unsized.is (omega arith)) (rw c.in-Unsized.is (omega arith))) in
    rw c.in_ok-push.ensures.items are
