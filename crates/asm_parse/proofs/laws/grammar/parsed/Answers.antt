use Rattle.asm_parse.proofs.Parsed.{is_parsed, only_parsed}
use Rattle.asm_parse.proofs.laws.grammar.parsed.Goals as goal

pub returns : goal.returns
returns c = record { is = is_parsed; only = only_parsed }
