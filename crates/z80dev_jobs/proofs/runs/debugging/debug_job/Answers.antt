use Rattle.host.specs.Ending.{ended}
use Rattle.z80dev_jobs.proofs.runs.debugging.debug_job.Goals as goal

pub returns-clause-ends : goal.returns-clause-ends
returns-clause-ends g c = (ended c.debugged-end.result, c.debugged-end.ensures.ends (g.E.Sink.stream c.args.errors.now), c.report_any.ensures.status, c.report_any.ensures.told)
