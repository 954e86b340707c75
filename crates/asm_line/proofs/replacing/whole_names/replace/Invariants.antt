use Rattle.std.proofs.Common.{◌≡◌, ◌++◌, drop}
use Rattle.asm_line.specs.Tokens.{lexemes}
use Rattle.asm_line.specs.Replacing.Replaced.{replaced_tokens}
use Rattle.asm_line.specs.Replacing.Views.{replacement_table}
use Rattle.asm_line.proofs.replacing.whole_names.replace.Given as goal

-- What is written, followed by the rest of the line replaced, is the whole line replaced.
abbrev pub invariant-loop-token : goal.invariant-loop-token
invariant-loop-token l =
    l.initial.out.items ++ replaced_tokens (replacement_table l.names) l.line (lexemes l.tokens)
    ≡ l.out.items ++ replaced_tokens (replacement_table l.names) l.rest (lexemes (drop l.token-index l.tokens))
