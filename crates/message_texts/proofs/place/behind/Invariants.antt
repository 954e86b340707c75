use Rattle.std.proofs.Common.{◌≡◌, drop}
use Rattle.asm_line.specs.Tokens.{lexemes}
use Rattle.asm_line.specs.Replacing.Pieces.{behind_all}
use Rattle.message_texts.proofs.place.behind.Given as goal

-- What comes after the tokens that are left is what comes after all of them.
abbrev pub invariant-loop-token : goal.invariant-loop-token
invariant-loop-token l =
    behind_all l.line (lexemes l.tokens) ≡ behind_all l.rest (lexemes (drop l.token-index l.tokens))
