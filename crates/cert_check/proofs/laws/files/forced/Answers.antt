use Rattle.cert_check.proofs.ForcingLemmas.{forced as forced_law}
use Rattle.cert_check.proofs.laws.files.forced.Goals as goal

pub returns : goal.returns
returns c = forced_law _ _ c.requires
