use Rattle.std.proofs.Common.{subst}
use Rattle.std.specs.List.{concat}
use Rattle.z80dev_jobs.specs.Runs.Running.{KeepsAll, ReportsRun, lines_in, told_lines}
use Rattle.z80dev_jobs.proofs.runs.running.end_run.Goals as goal

pub returns : goal.returns
returns g c =
    let told = c.args.told.now in
    let kept = c.keep_all-kept.result in (
      c.flush-flushed.result,
      kept,
      c.flush-flushed.ensures,
      subst (λ bytes. KeepsAll c.args.job.now bytes (concat c.args.ran.now.image) told (g.F.Files.folder c.args.files.now) (g.F.Files.folder c.keep_all-kept.new.files) kept) c.deref.ensures.value c.keep_all-kept.ensures,
      subst (λ why. ReportsRun (lines_in c.args.inputs.now) (told_lines told) kept why c.args.ran.now.pc (g.E.Sink.stream c.args.errors.now) (g.E.Sink.stream c.report_run.new.errors) c.report_run.result) c.why_at-why.ensures c.report_run.ensures,
    )
