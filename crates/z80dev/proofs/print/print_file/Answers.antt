use Rattle.std.proofs.Common.{refl, subst, Err}
use Rattle.std.proofs.lemmas.Result.{err_from_is_err_and}
use Rattle.z80dev.specs.Main.{IsBuiltAsMain, IsFileOf}
use Rattle.z80dev.specs.Private.Steps.{Writes}
use Rattle.z80dev.proofs.Ends.{refused, refusing, unread, written}
use Rattle.z80dev.proofs.print.print_file.Goals as goal

pub returns-in_err-built-clause-ends : goal.returns-in_err-built-clause-ends
returns-in_err-built-clause-ends g c =
    let refusal = c.in_err-built.field-0.0 in
    let answer : IsBuiltAsMain c.in_ok-text.text.items (Err refusal)
    = (record { name = c.as_bytes.result; text = c.deref.result }, (c.as_bytes.ensures.value, c.deref.ensures.value), c.in_err-built.ensures.answer) in
    let is = refusing c.in_ok-text.text.items refusal c.in_ok-text.ensures.limit answer in
    let ends = refused _ _ (g.W.Sink.stream c.args.output.now) (g.I.Input.failed c.read_text.new.input) (g.I.Input.reads c.read_text.new.input) (g.I.Input.interruptions c.read_text.new.input) _ refusal c.in_ok-text.ensures.text c.in_ok-text.ensures.end is in
    let p = err_from_is_err_and c.from_residual-in_err-built.result c.from_residual-in_err-built.ensures.1 in
    rw (p.1, p.2) ends

pub returns-clause-ends : goal.returns-clause-ends
returns-clause-ends g c =
    let built : IsFileOf c.in_ok-text.text.items c.in_ok-built.built.com.items
    = (c.in_ok-built.built, refl, (record { name = c.as_bytes.result; text = c.deref.result }, (c.as_bytes.ensures.value, c.deref.ensures.value), c.in_ok-built.ensures.answer)) in
    let wrote = subst (λ f. Writes f (g.W.Sink.stream c.args.output.now) (g.W.Sink.stream c.write_file.new.output) c.write_file.result) c.deref-2.ensures.value c.write_file.ensures in
    written (g.I.Input.remaining c.args.input.now) (g.I.Input.remaining c.read_text.new.input) (g.W.Sink.stream c.args.output.now) (g.W.Sink.stream c.write_file.new.output) (g.I.Input.failed c.read_text.new.input) (g.I.Input.reads c.read_text.new.input) (g.I.Input.interruptions c.read_text.new.input) c.in_ok-text.text.items c.in_ok-built.built.com.items c.write_file.result c.in_ok-text.ensures.text c.in_ok-text.ensures.end c.in_ok-text.ensures.limit built wrote

pub returns-in_err-text-clause-ends : goal.returns-in_err-text-clause-ends
returns-in_err-text-clause-ends g c =
    let ends = unread (g.I.Input.remaining c.args.input.now) (g.W.Sink.stream c.args.output.now) (g.I.Input.failed c.read_text.new.input) (g.I.Input.reads c.read_text.new.input) (g.I.Input.interruptions c.read_text.new.input) c.in_err-text.field-0.0 c.in_err-text.ensures.err in
    let p = err_from_is_err_and c.from_residual.result c.from_residual.ensures.1 in
    rw (p.1, p.2) ends
