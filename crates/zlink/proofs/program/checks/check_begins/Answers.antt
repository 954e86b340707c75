use Rattle.std.proofs.Common.{ℕ, ◌+◌, length}
use Rattle.zmo_object.specs.Modules.{module_of}
use Rattle.zlink.specs.Program.Faults.{begins_late}
use Rattle.zlink.proofs.Programs.Going_on.{Judging, first_is_not_late, other_is_not_late, passes}
use Rattle.zlink.proofs.program.checks.check_begins.Goals as goal
use Rattle.zlink.proofs.program.checks.check_begins.Goals.{else-number-gt0-via-then-number-gt0+else-module, else-number-gt0-via-else-number-gt0}

pub loop-number-preserved : goal.loop-number-preserved
loop-number-preserved c =
    let was = c.loop-number.invariant in
    let m = c.index-modules-number.result in
    elim c.else-number-gt0.branch as (λ _. (base : ℕ) × Judging begins_late c.args.modules.now (c.loop-number.number + 1) base) [
      | else-number-gt0-via-then-number-gt0+else-module w ↦ (
        was.0 + length m.statements.items,
        passes begins_late c.args.modules.now c.loop-number.number was.0 m c.loop-number-test.true c.index-modules-number.is (other_is_not_late was.0 c.loop-number.number (module_of m) w.if-module.false) was.1,
      )
      | else-number-gt0-via-else-number-gt0 w ↦ (
        was.0 + length m.statements.items,
        passes begins_late c.args.modules.now c.loop-number.number was.0 m c.loop-number-test.true c.index-modules-number.is (first_is_not_late was.0 c.loop-number.number (module_of m) w.if-number-gt0.false) was.1,
      )
    ]
