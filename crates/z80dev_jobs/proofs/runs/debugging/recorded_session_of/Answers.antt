use Rattle.std.proofs.Common.{inl, inr}
use Rattle.z80dev_jobs.proofs.Running.Given.{passed_on}
use Rattle.z80dev_jobs.specs.Runs.Debugging.{ReadsRecorded}
use Rattle.z80dev_jobs.proofs.runs.debugging.recorded_session_of.Goals as goal

pub returns-in_err-inputs : goal.returns-in_err-inputs
returns-in_err-inputs g c =
    let old = g.F.Files.folder c.args.files.now in
    let new = g.F.Files.folder c.debugged_of.new.files in
    passed_on (ReadsRecorded c.args.job.now old new) c.in_err-inputs.field-0.0 c.from_residual.result c.from_residual.ensures.1 (inl c.in_err-inputs.ensures)

pub returns-in-Err : goal.returns-in-Err
returns-in-Err g c = inr (g.F.Files.folder c.debugged_of.new.files, c.in_ok-inputs.inputs, c.in_ok-inputs.ensures, c.in-Err.ensures)
