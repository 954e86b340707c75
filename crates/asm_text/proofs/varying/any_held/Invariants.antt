use Rattle.std.proofs.Common.{◌≡◌, [], drop}
use Rattle.std.specs.List.{list_any}
use Rattle.asm_line.specs.Tokens.{lexemes}
use Rattle.asm_line.specs.Replacing.Views.{in_call}
use Rattle.asm_text.specs.Private.Varying.{is_held}
use Rattle.asm_text.proofs.varying.any_held.Given as goal

-- Some token is one of the names exactly if one of those that are left is.
abbrev pub invariant-loop-token : goal.invariant-loop-token
invariant-loop-token l = list_any (is_held (in_call l.names [] 0)) (lexemes l.tokens) ≡ list_any (is_held (in_call l.names [] 0)) (lexemes (drop l.token-index l.tokens))
