use Rattle.asm_parse.proofs.Judgements.{spelled_tree}
use Rattle.asm_parse.proofs.laws.values.same_items.Goals as goal

pub returns : goal.returns
returns c = spelled_tree
