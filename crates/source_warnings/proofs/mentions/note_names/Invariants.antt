use Rattle.std.proofs.Common.{◌++◌, drop}
use Rattle.std.specs.List.{filter_map}
use Rattle.asm_line.specs.Tokens.{lexemes}
use Rattle.source_warnings.specs.Mentions.{name_of_token}
use Rattle.source_warnings.specs.Noted.{noted_on}
use Rattle.source_warnings.specs.Private.Known.{Agrees}
use Rattle.source_warnings.proofs.mentions.note_names.Given as goal

-- What is noted and what the other tokens add is all.
abbrev pub invariant-loop-token : goal.invariant-loop-token
invariant-loop-token l = Agrees (l.mentions ++ noted_on l.number (filter_map name_of_token (lexemes (drop l.token-index l.tokens)))) (l.initial.mentions ++ noted_on l.number (filter_map name_of_token (lexemes l.tokens)))
