use Rattle.std.proofs.Common.{◌+◌, ◌≡◌, ◌∙◌, sym, subst, length}
use Rattle.zmo_object.specs.Modules.{module_of}
use Rattle.zlink.specs.Program.Faults.{enters_late}
use Rattle.zlink.specs.Private.Joining.{part}
use Rattle.zlink.proofs.Programs.Going_on.{Judging, none_refused, passes, rules_there}
use Rattle.zlink.proofs.program.checks.check_entries.Goals as goal

pub check_entry-requires-clause-rules : goal.check_entry-requires-clause-rules
check_entry-requires-clause-rules c = rules_there c.args.modules.now c.loop-number.number c.index-modules-number.result c.loop-number-test.true c.index-modules-number.is c.requires.rules

pub loop-number-preserved : goal.loop-number-preserved
loop-number-preserved c =
    let m = c.index-modules-number.result in
    let modules = c.args.modules.now in
    let counted : length m.statements.items ≡ c.len.result = sym (c.len.ensures ∙ m.statements.ok.0) in
    subst (λ n. Judging enters_late modules (c.loop-number.number + 1) (c.loop-number.base + n)) counted
    (passes enters_late modules c.loop-number.number c.loop-number.base m c.loop-number-test.true c.index-modules-number.is
    (none_refused (enters_late (part c.loop-number.number c.loop-number.base (module_of m))) c.in_ok-check_entry.field-0 c.in_ok-check_entry.ensures) c.loop-number.invariant)
