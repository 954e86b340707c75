use Rattle.std.proofs.Common.{refl, subst}
use Rattle.host.specs.End.{Tells}
use Rattle.host.specs.Reporting.{Reports, JudgesBad}
use Rattle.z80dev_jobs.specs.Explaining.{ExplainEnds}
use Rattle.host.specs.Ending.{ended}
use Rattle.z80dev_jobs.specs.Values.{bad_in_explain}
use Rattle.host.specs.World.{world_of}
use Rattle.host.proofs.Defined.{goes_on, none_bad}
use Rattle.z80dev_jobs.proofs.dispatch.explain_job.Goals as goal

pub returns : goal.returns
returns g c = λ input.
    let old = g.F.Files.folder c.args.files.now in
    let new = g.F.Files.folder c.explain_files.new.files in
    let before = g.W.Sink.stream c.args.output.now in
    let after = g.W.Sink.stream c.explain_files.new.output in
    let errors = g.E.Sink.stream c.args.errors.now in
    let mid = g.E.Sink.stream c.refuse_value.new.errors in
    let told = g.E.Sink.stream c.report_any.new.errors in
    let e = ended c.explain_files.result in
    let judged = none_bad c.bad_in_explain.result (bad_in_explain c.args.job.now) errors mid (subst (JudgesBad c.bad_in_explain.result errors mid) c.in_default.is c.refuse_value.ensures) c.bad_in_explain.ensures in
    goes_on (bad_in_explain c.args.job.now) (Reports (ExplainEnds c.args.job.now c.args.is_terminal)) (world_of old input before errors) (world_of new input after told) c.report_any.result judged.0
    (e, c.explain_files.ensures, c.report_any.ensures.status, subst (λ s. Tells e s told) judged.1 c.report_any.ensures.told, refl)
