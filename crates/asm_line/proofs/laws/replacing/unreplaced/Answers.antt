use Rattle.asm_line.proofs.Replaced.Lines.{whole}
use Rattle.asm_line.proofs.laws.replacing.unreplaced.Goals as goal

pub returns : goal.returns
returns c = λ table line tokens cut none. whole table line tokens cut.rest cut.begins none
