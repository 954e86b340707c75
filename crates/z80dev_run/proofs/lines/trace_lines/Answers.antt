use Rattle.std.proofs.Common.{[], ◌++◌, ap, sym, subst, ◌∙◌}
use Rattle.std.proofs.lemmas.List.{take_more}
use Rattle.z80dev_run.specs.Lines.{IsTrace}
use Rattle.z80dev_run.specs.Lines.IsTrace.{none}
use Rattle.z80dev_run.proofs.Traced.{one_more}
use Rattle.z80dev_run.proofs.lines.trace_lines.Goals as goal

pub loop-step-init : goal.loop-step-init
loop-step-init c = subst (IsTrace c.args.labels.now []) (sym c.new-text.ensures.items) none

pub loop-step-preserved : goal.loop-step-preserved
loop-step-preserved c =
    one_more c.args.labels.now c.args.steps.now c.loop-step.step-index _ c.loop-step.text.items c.in_ok-line_of.field-0.items c.extend_from_slice.new.self.items
    (take_more c.args.steps.now c.loop-step.step-index _ c.loop-step-test.true) (c.in_ok-extend_from_slice.ensures.items ∙ ap (λ bytes. c.loop-step.text.items ++ bytes) c.deref.ensures.value) c.loop-step.invariant c.in_ok-line_of.ensures
