use Rattle.std.proofs.Common.{◌≡◌, ◌+◌, ◌-◌, Ok, Err, ap, arith, replicate}
use Rattle.std.specs.List.{concat}
use Rattle.cpm_console.specs.Screen.{screen}
use Rattle.cpm_console.specs.Line.{rub_out}
use Rattle.cpm_console.proofs.Texts.{copies-more, shows_front, shows_none, shows_on, shows_stopped}
use Rattle.cpm_console.proofs.terminal.Terminal.wipe_out.Goals as goal

pub returns-in_err-put_text : goal.returns-in_err-put_text
returns-in_err-put_text g c =
    let dialog = g.C.Console.dialog in
    let left = c.args.self.now.column - c.loop.counter in
    let rest = c.args.self.now.column - (c.loop.counter + 1) in
    let now = screen dialog c.put_text.new.self in
    let e = c.in_err-put_text.field-0.0 in
    let parts = copies-more rub_out left rest (omega arith) in
    let stopped = shows_stopped (screen dialog c.loop.self) now (concat (replicate left rub_out)) rub_out (concat (replicate rest rub_out)) e parts c.in_err-put_text.ensures in
    shows_on (screen dialog c.args.self.now) now (concat (replicate (c.args.self.now.column - c.args.start) rub_out)) _ e c.from_residual.ensures.1 (c.loop.invariant now (Err e) stopped)

pub loop-preserved : goal.loop-preserved
loop-preserved g c = λ now r more.
    let left = c.args.self.now.column - c.loop.counter in
    let rest = c.args.self.now.column - (c.loop.counter + 1) in
    let next = screen g.C.Console.dialog c.put_text.new.self in
    c.loop.invariant now r (shows_front _ next now (concat (replicate left rub_out)) rub_out (concat (replicate rest rub_out)) r (copies-more rub_out left rest (omega arith)) c.in_ok-put_text.ensures more)

pub returns : goal.returns
returns g c =
    let left = c.args.self.now.column - c.loop.counter in
    let none : left ≡ 0 = omega arith in
    c.loop.invariant (screen g.C.Console.dialog c.loop.self) (Ok tt) (shows_none _ (concat (replicate left rub_out)) (ap (λ n. concat (replicate n rub_out)) none))
