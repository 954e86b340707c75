use Rattle.std.proofs.Common.{◌≡◌, ◌∙◌, ◌++◌, ap, sym, subst, None, Err, map}
use Rattle.asm_names.specs.Faults.{IsNamed, first_name_fault}
use Rattle.asm_names.specs.Lines.{lines_of}
use Rattle.asm_module.specs.Outlines.{IsOutline}
use Rattle.source_errors.specs.Findings.{finding_of}
use Rattle.source_errors.specs.Judged.{late_errors}
use Rattle.source_errors.specs.Private.State.{counted_of}
use Rattle.source_errors.proofs.Finding_all.{found_late, found_many}
use Rattle.source_errors.proofs.whole.judged.Goals as goal

pub returns-in-Ok : goal.returns-in-Ok
returns-in-Ok c = λ lines are early.
    let k = c.args.counting in
    found_late k c.requires.sound lines are early c.args.grow c.in_ok-outline-in-Ok.outline _
    (subst (λ ls. first_name_fault (lines_of ls) ≡ None) c.deref.ensures.value c.in-Ok.ensures.0)
    (subst (λ ls. IsOutline c.args.grow (lines_of ls) c.in_ok-outline-in-Ok.outline) c.deref-in-Ok.ensures.value c.in_ok-outline-in-Ok.ensures.outlined)
    (c.in_ok-values-in-Ok.ensures
    ∙ ap (λ os. map finding_of k.findings.items ++ late_errors (counted_of os c.deref-in-Ok-2.result.now) c.in_ok-outline-in-Ok.outline) c.deref-in-Ok-3.ensures.value
    ∙ ap (λ ls. map finding_of k.findings.items ++ late_errors (counted_of k.origins.items ls) c.in_ok-outline-in-Ok.outline) c.deref-in-Ok-2.ensures.value)

pub returns : goal.returns
returns c = λ lines are early.
    let k = c.args.counting in
    found_many k c.requires.sound lines are early c.args.grow c.in-Err.fault.0 c.in-Err.fault.1 c.in-Some.why _ (sym c.why_of.ensures ∙ c.in-Some.is)
    (subst (λ ls. IsNamed (lines_of ls) (Err c.in-Err.fault)) c.deref.ensures.value c.in-Err.ensures) c.in_ok-put_whole.ensures
