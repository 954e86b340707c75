use Rattle.std.proofs.Common.{◌∙◌, ap, sym, subst, arith}
use Rattle.asm_line.specs.Tokens.{lexemes}
use Rattle.asm_macro.specs.State.{with_line_counted}
use Rattle.asm_macro.specs.Ahead.{seen}
use Rattle.asm_macro.specs.Private.Heads.{by_head}
use Rattle.asm_macro.specs.Private.Moves.{Takes, moved, rest_of, state_of}
use Rattle.asm_macro.proofs.Heads.{part_is}
use Rattle.asm_macro.proofs.expansion.Expansion.take_form.Goals as goal

pub returns-clause-taken : goal.returns-clause-taken
returns-clause-taken c =
    let x = c.args.self.now in
    let l = seen c.args.line in
    let tokens = lexemes c.args.tokens.now in
    let is = part_is (rest_of x).depth (state_of x) l (rest_of x).text tokens c.requires.scanned (omega (arith, c.if-self-ge-MOST_LINES.false)) in
    let form = ap (λ f. by_head f.head (rest_of x).depth (with_line_counted (state_of x)) l f tokens (rest_of x).text) c.form_of-form.ensures in
    subst (λ p. Takes l c.take_head.result (rest_of c.take_head.new.self) (moved (rest_of x).depth (rest_of x).around p)) (form ∙ sym is) c.take_head.ensures.taken
