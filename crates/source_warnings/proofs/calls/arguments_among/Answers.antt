use Rattle.std.proofs.Common.{◌≡◌, ◌∙◌, ℕ, List, Vec, Global, ap, arith, length}
use Rattle.std.proofs.lemmas.List.{length-map}
use Rattle.asm_line.specs.Forms.{form}
use Rattle.asm_line.specs.Replacing.Arguments.{arguments}
use Rattle.asm_line.specs.Replacing.Views.{texts}
use Rattle.asm_line.specs.Tokens.{Lexeme, lexemes}
use Rattle.asm_text.specs.Calls.{arguments_in}
use Rattle.source_warnings.proofs.Called.{in-length}
use Rattle.source_warnings.proofs.calls.arguments_among.Goals as goal

pub returns : goal.returns
returns c =
    let text = c.args.text.now in
    let rest : List Lexeme = lexemes c.form_of-form.result.rest.now in
    let same : rest ≡ (form (lexemes c.args.tokens.now)).rest = ap (λ f. f.rest) c.form_of-form.ensures in
    let counted = ap length c.in_ok-all.ensures in
    let len = c.len.ensures in
    let all : length (texts c.in_ok-all.all.items) ≡ length c.in_ok-all.all.items = length-map c.in_ok-all.all.items (λ (v : Vec ℕ Global). v.items) in
    let first : c.len.result ≡ length (arguments text rest) = omega (arith, counted, len, all) in
    first ∙ (in-length text (lexemes c.args.tokens.now) rest ∙ ap (λ r. length (arguments_in text (lexemes c.args.tokens.now) r)) same)
