use Rattle.std.proofs.Common.{inr}
use Rattle.z80dev_jobs.proofs.runs.playing.session_of.Goals as goal

pub returns-in-Err : goal.returns-in-Err
returns-in-Err g c = inr (g.F.Files.folder c.played_of.new.files, c.in_ok-inputs.inputs, c.in_ok-inputs.ensures, c.in-Err.ensures)
