use Rattle.std.proofs.Common.{◌+◌, [], ◌∷◌, Ok, Err, drop, get_or, arith}
use Rattle.std.proofs.lemmas.List.{drop_all, drop_more}
use Rattle.cpm_console.specs.Screen.{screen}
use Rattle.cpm_console.proofs.Texts.{shows_front, shows_none, shows_on, shows_stopped}
use Rattle.cpm_console.proofs.terminal.Terminal.put_text.Goals as goal

pub returns-in_err-put_char : goal.returns-in_err-put_char
returns-in_err-put_char g c =
    let dialog = g.C.Console.dialog in
    let text = c.args.text.now in
    let i = c.loop-byte.byte-index in
    let now = screen dialog c.put_char.new.self in
    let e = c.in_err-put_char.field-0.0 in
    let left = drop_more text i 0 (omega arith) in
    let stopped = shows_stopped (screen dialog c.loop-byte.self) now (drop i text) (get_or text i 0 ∷ []) (drop (i + 1) text) e left c.in_err-put_char.ensures in
    shows_on (screen dialog c.args.self.now) now text _ e c.from_residual.ensures.1 (c.loop-byte.invariant now (Err e) stopped)

pub loop-byte-preserved : goal.loop-byte-preserved
loop-byte-preserved g c = λ now r rest.
    let text = c.args.text.now in
    let i = c.loop-byte.byte-index in
    let next = screen g.C.Console.dialog c.put_char.new.self in
    c.loop-byte.invariant now r (shows_front _ next now (drop i text) (get_or text i 0 ∷ []) (drop (i + 1) text) r (drop_more text i 0 (omega arith)) c.in_ok-put_char.ensures rest)

pub returns : goal.returns
returns g c =
    let text = c.args.text.now in
    let i = c.loop-byte.byte-index in
    c.loop-byte.invariant (screen g.C.Console.dialog c.loop-byte.self) (Ok tt) (shows_none _ (drop i text) (drop_all i text (omega arith)))
