use Rattle.std.proofs.Common.{◌≡◌, ◌≤◌, ◌++◌, drop}
use Rattle.asm_line.specs.Tokens.{lexemes}
use Rattle.asm_line.specs.Replacing.Arguments.{arguments, arguments_from}
use Rattle.asm_line.specs.Replacing.Views.{texts}
use Rattle.asm_line.proofs.replacing.called.arguments.Given as goal

-- The complete arguments and those still to be found are all arguments.
abbrev pub invariant-loop-token : goal.invariant-loop-token
invariant-loop-token l =
    (l.depth ≤ l.token-index)
    × (arguments l.line (lexemes l.tokens) ≡ texts l.all.items ++ arguments_from l.depth l.argument.items l.rest (lexemes (drop l.token-index l.tokens)))
