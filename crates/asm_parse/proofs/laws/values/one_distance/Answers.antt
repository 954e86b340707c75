use Rattle.asm_parse.proofs.Places as places
use Rattle.asm_parse.proofs.laws.values.one_distance.Goals as goal

pub returns : goal.returns
returns c = places.one_distance
