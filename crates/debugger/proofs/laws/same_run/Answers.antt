use Rattle.debugger.proofs.Talking.{first_is_true, same_run}
use Rattle.debugger.proofs.laws.same_run.Goals as goal

pub returns : goal.returns
returns c = λ file words disk console recorded known listing lines said old new first talk. same_run known listing old (first_is_true old.shown first.4 first.5) talk
