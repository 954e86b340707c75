use Rattle.std.proofs.Common.{◌≡◌, ◌∙◌, ◌&&◌, ap, sym, [], true, is_some}
use Rattle.std.specs.Map.{lookup}
use Rattle.std.specs.Str.{bytes_eq}
use Rattle.asm_line.specs.Tokens.{lexeme}
use Rattle.common.specs.Words.{upper}
use Rattle.asm_line.specs.Single.{is_name}
use Rattle.asm_line.specs.Replacing.Views.{in_call}
use Rattle.asm_text.proofs.varying.is_held.Goals as goal

pub returns : goal.returns
returns c =
    let names = in_call c.args.names.now [] 0 in
    let named : is_name (lexeme c.args.token.now) ≡ true = sym c.is_name.ensures ∙ c.if-not-is_name.false in
    let key = c.deref.ensures.value ∙ c.in_ok-key.ensures.ok in
    c.has.ensures [] 0 ∙ ap (λ n. is_some (lookup (bytes_eq n) names)) key ∙ sym (ap (λ b. b && is_some (lookup (bytes_eq (upper c.args.token.now.text.now)) names)) named)
