use Rattle.std.proofs.Common.{◌+◌, ◌≡◌, ◌∙◌, sym, subst, length, map}
use Rattle.std.proofs.lemmas.Result.{err_from_is_err_and}
use Rattle.zmo_object.specs.Modules.{module_of}
use Rattle.zlink.specs.Program.Faults.{first_of}
use Rattle.zlink.specs.Program.Parts.{parts}
use Rattle.zlink.specs.Private.Joining.{clashes, once, part}
use Rattle.zlink.proofs.Programs.Going_on.{Gives, fails_on, gives_more, given_twice, rules_there}
use Rattle.zlink.proofs.program.publics.PublicNames.of.Goals as goal

pub give-requires-clause-rules : goal.give-requires-clause-rules
give-requires-clause-rules c = rules_there c.args.modules.now c.loop-number.number c.index-modules-number.result c.loop-number-test.true c.index-modules-number.is c.requires.rules

pub returns-in_err-give : goal.returns-in_err-give
returns-in_err-give c =
    let m = c.index-modules-number.result in
    let modules = c.args.modules.now in
    let p = err_from_is_err_and c.from_residual.result c.from_residual.ensures.1 in
    rw (p.1, p.2) (fails_on (clashes c.loop-number.names (part c.loop-number.number c.loop-number.base (module_of m))) (first_of (once (map module_of modules)) (parts (map module_of modules))) c.in_err-give.field-0.0
    c.in_err-give.ensures (λ some. given_twice modules c.loop-number.number c.loop-number.base m c.loop-number.names c.in_err-give.field-0.0 c.loop-number-test.true c.index-modules-number.is some c.loop-number.invariant))

pub loop-number-preserved : goal.loop-number-preserved
loop-number-preserved c =
    let m = c.index-modules-number.result in
    let modules = c.args.modules.now in
    let counted : length m.statements.items ≡ c.len.result = sym (c.len.ensures ∙ m.statements.ok.0) in
    let given = c.in_ok-give.ensures in
    subst (λ n. Gives modules (c.loop-number.number + 1) (c.loop-number.base + n) c.give.new.self) counted
    (gives_more modules c.loop-number.number c.loop-number.base m c.loop-number.names c.give.new.self c.loop-number-test.true c.index-modules-number.is given.0 given.1 c.loop-number.invariant)
