-- The expression of some symbols, as a function. laws::parsed says that this is what IsParsed means, so nobody has to follow how it
-- is found. It is here for definitions about the expression of some tokens.
use Rattle.std.specs.Prelude.{List, Option, Some, None, Result, Ok, Err, if◌then◌else◌, map, nat_lt}
use Rattle.asm_line.specs.Tokens.{Lexeme}
use Rattle.asm_parse.specs.declared.fault.ExprFault.{ExprFault}
use Rattle.asm_parse.specs.declared.item.Item.{Item}
use Rattle.asm_parse.specs.declared.reader.TheConstants.{MOST_OPEN}
use Rattle.asm_parse.specs.Expression.{postfix}
use Rattle.asm_parse.specs.Source.{Operand}
use Rattle.asm_parse.specs.Grammar.{GrammarSymbol, Phrase, depth, expression, symbol}
use Rattle.asm_parse.specs.Private.Parsing.{reading, start}

abbrev pub parsed_by : Option Phrase → Result (List (Item Operand)) ExprFault
parsed_by None = Err ExprFault.Syntax
parsed_by (Some phrase) = if nat_lt MOST_OPEN (depth phrase) then Err ExprFault.TooDeep else Ok (postfix (expression phrase))

-- the items of the expression that symbols make, or their error
abbrev pub parsed_symbols : List GrammarSymbol → Result (List (Item Operand)) ExprFault
parsed_symbols symbols = parsed_by (reading symbols start)

-- the same for tokens
abbrev pub parsed : List Lexeme → Result (List (Item Operand)) ExprFault
parsed tokens = parsed_symbols (map symbol tokens)
