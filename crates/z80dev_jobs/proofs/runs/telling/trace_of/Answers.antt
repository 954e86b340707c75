use Rattle.z80dev_jobs.proofs.Running.Given.{wanted}
use Rattle.z80dev_run.specs.Reports.{IsTraceFile}
use Rattle.z80dev_jobs.proofs.runs.telling.trace_of.Goals as goal

pub returns-in_ok-trace_file-in-Some : goal.returns-in_ok-trace_file-in-Some
returns-in_ok-trace_file-in-Some c =
    wanted (IsTraceFile c.args.labels.now c.args.kept.now.first.items c.args.turns) c.args.telling.trace c.in-Some.field-0 c.in_ok-trace_file-in-Some.field-0 c.in-Some.is c.in_ok-trace_file-in-Some.ensures
