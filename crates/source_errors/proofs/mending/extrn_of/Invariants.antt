use Rattle.std.proofs.Common.{◌≡◌, ◌++◌, ◌<◌, codes, drop, length}
use Rattle.std.specs.List.{flat_map}
use Rattle.asm_line.specs.Tokens.{lexemes}
use Rattle.source_errors.specs.Counted.{free_name}
use Rattle.source_errors.proofs.mending.extrn_of.Given as goal

-- The line so far, with the names of the tokens that are left, is the whole.
abbrev pub invariant-loop-token : goal.invariant-loop-token
invariant-loop-token l = l.line.items ++ flat_map free_name (lexemes (drop l.token-index l.tokens)) ≡ codes "EXTRN " ++ flat_map free_name (lexemes l.tokens)
