use Rattle.asm_parse.proofs.Completeness as parsing
use Rattle.asm_parse.proofs.laws.grammar.one_phrase.Goals as goal

pub returns : goal.returns
returns c = parsing.one_phrase
