use Rattle.std.proofs.Common.{◌∙◌, [], ap, arith, length, subst, sym}
use Rattle.std.specs.Vec.Iter.{into_iter_items}
use Rattle.report_texts.specs.Repeats.{HasNoRepeats}
use Rattle.report_texts.proofs.Leaving_out.{Leaves, all_left, nil_of, no_repeats, leaves_one_out, keeps_one}
use Rattle.report_texts.proofs.repeats.without_repeats.Goals.{in-None-2, in-Some-2}
use Rattle.report_texts.proofs.repeats.without_repeats.Goals as goal

pub loop-report-preserved-in-Continue-branch-2 : goal.loop-report-preserved-in-Continue-branch-2
loop-report-preserved-in-Continue-branch-2 c =
    let was = c.loop-report.invariant.0 in
    let one = ap length c.in-Some.ensures.steps.0 in
    let less = c.in-Some.ensures.steps.1 in
    let tells = subst (λ rest. Leaves c.args.before c.args.reports.items rest c.loop-report.seen c.loop-report.left.items) c.in-Some.ensures.steps.0 c.loop-report.invariant.1 in
    let new = sym c.if-branch.true ∙ c.in_ok-is_new.ensures.new in (
      omega (arith, was, one, less),
      subst (λ left. Leaves c.args.before c.args.reports.items (into_iter_items c.next.new.self) c.is_new.new.self left) (sym c.in_ok-push.ensures.items)
          (keeps_one c.args.before c.args.reports.items c.in-Some.report _ _ _ _ tells c.in_ok-is_new.ensures.added new),
    )

pub loop-report-preserved : goal.loop-report-preserved
loop-report-preserved c =
    let was = c.loop-report.invariant.0 in
    let one = ap length c.in-Some.ensures.steps.0 in
    let less = c.in-Some.ensures.steps.1 in
    let tells = subst (λ rest. Leaves c.args.before c.args.reports.items rest c.loop-report.seen c.loop-report.left.items) c.in-Some.ensures.steps.0 c.loop-report.invariant.1 in
    let old = sym c.if-branch.false ∙ c.in_ok-is_new.ensures.new in
    let now = leaves_one_out c.args.before c.args.reports.items c.in-Some.report _ _ _ _ tells c.in_ok-is_new.ensures.added old in
    elim c.match-report-2.branch [
      | in-Some-2 w ↦ (omega (arith, was, one, less), now)
      | in-None-2 w ↦ (omega (arith, was, one, less), now)
    ]

pub returns-clause-distinct : goal.returns-clause-distinct
returns-clause-distinct c =
    let none = nil_of (into_iter_items c.loop-report.report-iterator) (sym c.loop-report.invariant.0 ∙ c.in-None.ensures.steps.0) in
    let all = all_left c.args.before c.args.reports.items c.loop-report.seen c.loop-report.left.items
    (subst (λ rest. Leaves c.args.before c.args.reports.items rest c.loop-report.seen c.loop-report.left.items) none c.loop-report.invariant.1) in
    subst (HasNoRepeats c.args.before) (sym all) (no_repeats c.args.before [] c.args.reports.items)
