use Rattle.std.proofs.Common.{rules}
use Rattle.cpm_run.proofs.Recorded.{one_goes}
use Rattle.cpm_run.proofs.recording.keep_last.Goals as goal

pub returns : goal.returns
returns c = λ steps was.
    one_goes c.args.most steps c.args.step c.args.last.now.items _ c.pop_front-oldest.new.self.items was c.in_ok-push_back.ensures.items (search rules) c.pop_front-oldest.ensures.rest
