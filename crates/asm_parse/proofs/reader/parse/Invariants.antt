use Rattle.std.proofs.Common.{map}
use Rattle.asm_line.specs.Tokens.{lexemes}
use Rattle.asm_parse.specs.Grammar.{symbol}
use Rattle.asm_parse.specs.Private.Readers.{ReadIn}
use Rattle.asm_parse.proofs.reader.parse.Given as goal

abbrev pub invariant-loop-token : goal.invariant-loop-token
invariant-loop-token l = ReadIn (map symbol (lexemes l.tokens)) l.token-index l.reader
