use Rattle.cpm_image.proofs.Judgement as judgement
use Rattle.cpm_image.proofs.laws.directory.one_judgement.Goals as goal

pub returns : goal.returns
returns c = judgement.one_judgement
