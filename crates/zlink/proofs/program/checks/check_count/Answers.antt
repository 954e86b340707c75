use Rattle.std.proofs.Common.{◌+◌, ◌≡◌, ◌∙◌, sym, subst, length, map, arith}
use Rattle.zmo_object.specs.Modules.{module_of}
use Rattle.zlink.proofs.Programs.Going_on.{Reached, left, reached_next}
use Rattle.zlink.proofs.program.checks.check_count.Goals as goal

pub loop-module-preserved : goal.loop-module-preserved
loop-module-preserved c =
    let m = c.module-item.result in
    let modules = c.args.modules.now in
    let counted : length m.statements.items ≡ c.len-count.result = sym (c.len-count.ensures ∙ m.statements.ok.0) in (
      subst (λ n. Reached (map module_of modules) (c.loop-module.module-index + 1) (c.loop-module.count + n) (left modules (c.loop-module.module-index + 1))) counted
          (reached_next modules c.loop-module.module-index c.loop-module.count m c.loop-module-test.true c.module-item.is c.loop-module.invariant.0),
      omega (arith, c.if-count-gt-MOST_STATEMENTS.false),
    )
