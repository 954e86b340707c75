use Rattle.std.proofs.Common.{◌≡◌, ◌<◌, ◌+◌, ◌∙◌, ◌∷◌, ap, sym, subst, refl, length, arith, IfSome, Some, None, Ok}
use Rattle.asm_macro.specs.declared.take.TheConstants.{MOST_NESTED}
use Rattle.asm_line.specs.Tokens.{lexemes}
use Rattle.common.specs.Words.{upper}
use Rattle.asm_line.specs.FormViews.{form_seen}
use Rattle.asm_macro.specs.declared.fault.MacroFault.{MacroFault}
use Rattle.asm_macro.specs.State.{called_by, macro_called}
use Rattle.asm_text.specs.Kept.{IsCall}
use Rattle.asm_text.specs.Calls.{arguments_in, body_lines, label_lines, table_of}
use Rattle.asm_text.specs.Sections.Onward as onward
use Rattle.asm_macro.specs.Ahead.{seen}
use Rattle.asm_text.specs.Prepared.{Prepares, body_texts, macro_seen, macros_seen}
use Rattle.asm_macro.specs.Private.Moves.{Fails, On, Takes, rest_of, state_of}
use Rattle.asm_macro.proofs.Called.{called_off, called_on, opened_is}
use Rattle.asm_macro.proofs.Stacks.{depth_is}
use Rattle.asm_macro.proofs.expansion.Expansion.word.Goals as goal

pub returns-in-None-clause-taken : goal.returns-in-None-clause-taken
returns-in-None-clause-taken c =
    let x = c.args.self.now in
    let l = seen c.args.line in
    let f = form_seen c.args.form in
    let tokens = lexemes c.args.tokens.now in
    let name = upper c.args.name.now in
    let key = c.deref.ensures.value ∙ c.in_ok-key.ensures.ok in
    let m = macro_seen x.lines c.in-Some.called.now in
    let found : macro_called (state_of x) name ≡ Some m = ap (λ k. called_by k (macros_seen x.lines x.macros.entries)) (sym key) ∙ sym (c.in-Some.ensures.found x.lines) in
    let shallow : (rest_of x).depth < MOST_NESTED = omega (arith, c.if-len-self-ge-MOST_NESTED.false, c.len.ensures, depth_is x) in
    let label = c.in_ok-label.ensures l.number in
    let ready = c.in_ok-prepared.ensures.prepares x.lines (c.in-Some.ensures.kept x.lines c.requires.sound.macros) in
    let none = subst (Prepares x.lines c.in-Some.called.now l.text tokens f.rest x.counter) c.in-None.is ready in
    let off = called_off (rest_of x).depth (rest_of x).around (state_of x) l f tokens (rest_of x).text name (macro_called (state_of x) name) m found shallow (opened_is x.lines c.in-Some.called.now None none) in
    subst (Takes l c.refused.result (rest_of x)) (ap (λ g. Fails g l.number MacroFault.Stray) label ∙ sym off) (c.refused.ensures l (rest_of x) refl)

pub returns-clause-taken : goal.returns-clause-taken
returns-clause-taken c =
    let x = c.args.self.now in
    let l = seen c.args.line in
    let f = form_seen c.args.form in
    let tokens = lexemes c.args.tokens.now in
    let name = upper c.args.name.now in
    let key = c.deref.ensures.value ∙ c.in_ok-key.ensures.ok in
    let m = macro_seen x.lines c.in-Some.called.now in
    let found : macro_called (state_of x) name ≡ Some m = ap (λ k. called_by k (macros_seen x.lines x.macros.entries)) (sym key) ∙ sym (c.in-Some.ensures.found x.lines) in
    let shallow : (rest_of x).depth < MOST_NESTED = omega (arith, c.if-len-self-ge-MOST_NESTED.false, c.len.ensures, depth_is x) in
    let label = c.in_ok-label.ensures l.number in
    let ready = c.in_ok-prepared.ensures.prepares x.lines (c.in-Some.ensures.kept x.lines c.requires.sound.macros) in
    let p = subst (Prepares x.lines c.in-Some.called.now l.text tokens f.rest x.counter) c.in-Some-prepared.is ready in
    let names = table_of m (arguments_in l.text tokens f.rest) x.counter p.0.locals in
    let on = called_on (rest_of x).depth (rest_of x).around (state_of x) l f tokens (rest_of x).text name (macro_called (state_of x) name) m p.0 found shallow (opened_is x.lines c.in-Some.called.now (Some p.0) p.1) in
    let new = rest_of c.enter.new.self in
    let entered = c.in_ok-enter-in-Some-prepared.ensures.entered names p.2 in
    let whole = entered
    ∙ ap (λ n. record { depth = (rest_of x).depth + 1; state = record (state_of x) { counter = n }; text = body_lines l.number names (body_texts x.lines c.in-Some-prepared.ready.body); around = record { depth = (rest_of x).depth; next = onward.Rest (rest_of x).text } ∷ (rest_of x).around }) p.3
    ∙ ap (λ ts. record { depth = (rest_of x).depth + 1; state = record (state_of x) { counter = x.counter + length p.0.locals }; text = body_lines l.number names ts; around = record { depth = (rest_of x).depth; next = onward.Rest (rest_of x).text } ∷ (rest_of x).around }) p.4 in
    subst (Takes l (Ok c.begun.result) new) (ap (λ g. On g new) label ∙ ap (On (label_lines f.label l tokens)) whole ∙ sym on) (c.begun.ensures l new)

pub enter-requires-clause-call : goal.enter-requires-clause-call
enter-requires-clause-call c =
    let x = c.args.self.now in
    let kept = c.in-Some.ensures.kept x.lines c.requires.sound.macros in
    subst (λ o. IfSome o (λ p. IsCall x.lines p.call)) c.in-Some-prepared.is (c.in_ok-prepared.ensures.call x.lines kept)
