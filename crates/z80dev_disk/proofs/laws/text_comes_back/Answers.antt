use Rattle.z80dev_disk.proofs.Texts.{text_comes_back}
use Rattle.z80dev_disk.proofs.laws.text_comes_back.Goals as goal

pub returns : goal.returns
returns c = text_comes_back
