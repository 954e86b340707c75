use Rattle.std.proofs.Common.{◌∙◌, ◌++◌, ◌∷◌, [], ap, sym, is_some}
use Rattle.asm_line.specs.Tokens.{lexemes}
use Rattle.common.specs.Words.{upper}
use Rattle.asm_expr.specs.Names.{found}
use Rattle.asm_macro.specs.Values.{value_of_tokens}
use Rattle.asm_macro.specs.Private.Constants.{table_of}
use Rattle.asm_macro.specs.Private.Heads.{with_worth}
use Rattle.asm_macro.proofs.Taken.{value_is}
use Rattle.asm_macro.proofs.Worth.{copied_some, is_new, is_there, one_more}
use Rattle.asm_macro.proofs.constants.Constants.learn.Goals as goal

pub returns-then-is_some : goal.returns-then-is_some
returns-then-is_some c =
    let names = c.self.invariant ∙ ap table_of c.self.view_is in
    let key = c.deref.ensures.value ∙ c.in_ok-key.ensures.ok in
    is_there c.args.self.now (upper c.args.name.now) (value_of_tokens (table_of c.args.self.now) (lexemes c.args.tokens.now))
    (ap (λ t. is_some (found t (upper c.args.name.now))) (sym names) ∙ ap (λ k. is_some (found c.self.inside.names k)) (sym key) ∙ ap is_some (sym c.meaning.ensures) ∙ copied_some c.meaning.result ∙ sym c.is_some.ensures ∙ c.if-is_some.true)

pub returns-in-Ok : goal.returns-in-Ok
returns-in-Ok c =
    let names = c.self.invariant ∙ ap table_of c.self.view_is in
    let key = c.deref.ensures.value ∙ c.in_ok-key.ensures.ok in
    let w = value_of_tokens (table_of c.args.self.now) (lexemes c.args.tokens.now) in
    let new = is_new c.args.self.now (upper c.args.name.now) w
    (ap (λ t. is_some (found t (upper c.args.name.now))) (sym names) ∙ ap (λ k. is_some (found c.self.inside.names k)) (sym key) ∙ ap is_some (sym c.meaning.ensures) ∙ copied_some c.meaning.result ∙ sym c.is_some.ensures ∙ c.if-is_some.false) in
    let value = value_is w c.in-Ok.value (c.in-Ok.ensures c.args.self.now names) in
    let d = c.in_ok-define-in-Ok.ensures in
    one_more c.self.inside.names.entries c.define.new.self.entries c.in_ok-key.key.items c.in-Ok.value (ap (λ t. t.entries) d.ok)
    ∙ ap (λ cs. cs ++ (c.in_ok-key.key.items, c.in-Ok.value) ∷ []) c.self.view_is
    ∙ ap (λ k. c.args.self.now ++ (k, c.in-Ok.value) ∷ []) c.in_ok-key.ensures.ok
    ∙ ap (λ r. with_worth (upper c.args.name.now) r c.args.self.now) (sym value) ∙ sym new
