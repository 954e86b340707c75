use Rattle.std.proofs.Common.{◌≡◌, ◌∙◌, ◌<◌, ◌++◌, ap, arith, sym, subst, append-nil, ℕ, [], cond, get_or, length, map, slice_get}
use Rattle.asm_expr.specs.Names.{Table}
use Rattle.asm_names.specs.Names.{names}
use Rattle.source_errors.specs.Counted.{Counted, takens}
use Rattle.source_errors.specs.Findings.{finding_of}
use Rattle.source_errors.specs.Judged.{late_in, late_why}
use Rattle.source_errors.specs.Private.State.{counted_of}
use Rattle.source_errors.proofs.Judging_lines.{counted_at, counted_length, counted_line, judged_line, line_more, lines_over}
use Rattle.source_errors.proofs.judging.judge_lines.Goals as goal
use Rattle.source_errors.proofs.judging.judge_lines.Goals.{then-origin+in_ok-put_judged, else-origin}

abbrev moved : Table → ℕ → Table
moved t n = record t { here = n }

pub loop-at-preserved : goal.loop-at-preserved
loop-at-preserved c =
    let lines = c.args.lines.now in
    let origins = c.args.origins.now in
    let o = c.args.outline in
    let at = c.loop-at.at in
    let lt : at < length lines = c.loop-at-test.true in
    let all = counted_of origins lines in
    let x : Counted = counted_line c.index-origins-at.result c.index-lines-at.result in
    let x_is : x ≡ get_or all at x = counted_at origins lines at c.index-origins-at.result c.index-lines-at.result x c.requires.many lt c.index-origins-at.is c.index-lines-at.is in
    let within : at < length all = subst (λ n. at < n) (sym (counted_length origins lines c.requires.many)) lt in
    elim c.if-origin.branch [
      | then-origin+in_ok-put_judged w ↦ (
        w.names-is ∙ w.set_here.ensures ∙ ap (λ t. moved t w.next_at.result) c.loop-at.invariant.0 ∙ ap (moved o.settled.names) (sym (ap (λ (t : Table). t.here) (w.names-is ∙ w.set_here.ensures))),
        line_more (takens all) o all at x (map finding_of c.loop-at.findings.items) (map finding_of c.if-origin.findings.items) _ within x_is
            (ap (λ f. map finding_of f.items) w.findings-is ∙ w.in_ok-put_judged.ensures
            ∙ ap (λ ys. map finding_of c.loop-at.findings.items ++ ys)
            (judged_line _ lines origins o at c.index-lines-at.result c.index-origins-at.result c.args.table.now w.set_here.new.self w.fault_at-fault.result w.deref-then-origin.result.now c.requires.many c.requires.outlined.1 c.requires.names lt
            c.index-lines-at.is (λ f is. w.fault_at-fault.ensures f (ap (λ fs. slice_get fs at) w.deref.ensures.value ∙ is))
            (w.set_here.ensures ∙ ap (λ t. moved t w.next_at.result) c.loop-at.invariant.0 ∙ ap (moved o.settled.names) w.next_at.ensures) w.deref-then-origin.ensures.value w.if-origin.true))
            c.loop-at.invariant.1,
      )
      | else-origin w ↦ (
        w.names-is ∙ c.loop-at.invariant.0 ∙ ap (moved o.settled.names) (sym (ap (λ (t : Table). t.here) w.names-is)),
        line_more (takens all) o all at x (map finding_of c.loop-at.findings.items) (map finding_of c.if-origin.findings.items) _ within x_is
            (ap (λ f. map finding_of f.items) w.findings-is ∙ sym (append-nil (map finding_of c.loop-at.findings.items))
            ∙ ap (λ b. map finding_of c.loop-at.findings.items ++ cond b (late_in (names (takens all)) x.from x.taken.line (late_why (takens all) o at x.taken.line)) []) (sym w.if-origin.false))
            c.loop-at.invariant.1,
      )
    ]

pub returns : goal.returns
returns c =
    let lines = c.args.lines.now in
    let origins = c.args.origins.now in
    let long = counted_length origins lines c.requires.many in
    let over = c.loop-at-test.false in
    lines_over (takens (counted_of origins lines)) c.args.outline (counted_of origins lines) c.loop-at.at _ _ (omega (arith, long, over)) c.loop-at.invariant.1
