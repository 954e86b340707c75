use Rattle.std.proofs.Common.{◌∙◌, ◌+◌, ap, sym, [], arith, get_or, drop, take, ◌-◌}
use Rattle.std.proofs.Math.ListN.{get_or-map}
use Rattle.std.proofs.lemmas.List.{length-map}
use Rattle.asm_line.specs.Tokens.{lexeme, lexemes}
use Rattle.asm_line.specs.declared.token.Kind.{Kind}
use Rattle.asm_line.specs.declared.token.Token.{Token}
use Rattle.asm_line.specs.Replacing.Pieces.{behind_all}
use Rattle.asm_text.proofs.Openings.{behind_step}
use Rattle.asm_text.proofs.open.arguments_of.Goals as goal

pub loop-at-preserved : goal.loop-at-preserved
loop-at-preserved c =
    let d : Token = record { kind = Kind.Name; text = record { ref_ptr = (0, 0); now = [] } } in
    let count = c.saturating_sub-count.result in (
      omega (arith, c.loop-at-test.true),
      c.loop-at.invariant.1 ∙ behind_step c.loop-at.behind.now (lexemes c.args.tokens.now) count c.loop-at.at (lexeme (get_or c.args.tokens.now c.loop-at.at d)) (lexeme d) (omega (arith, c.loop-at-test.true))
          (omega (arith, c.loop-at-test.true, c.saturating_sub-count.ensures, length-map c.args.tokens.now (λ t. lexeme t))) (get_or-map (λ t. lexeme t) c.args.tokens.now c.loop-at.at d)
          ∙ ap (λ b. behind_all b (take (count - (c.loop-at.at + 1)) (drop (c.loop-at.at + 1) (lexemes c.args.tokens.now)))) (sym c.after-behind.ensures),
    )
