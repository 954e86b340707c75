use Rattle.std.proofs.Common.{◌-◌, ◌+◌, Ok, Err, arith, replicate}
use Rattle.cpm_console.specs.Screen.{screen}
use Rattle.cpm_console.proofs.Texts.{blanks-more, blanks-stopped, no_blanks, prints_on}
use Rattle.cpm_console.proofs.terminal.Terminal.put_blanks.Goals as goal

pub returns-in_err-put_plain : goal.returns-in_err-put_plain
returns-in_err-put_plain g c =
    let dialog = g.C.Console.dialog in
    let now = screen dialog c.put_plain.new.self in
    let e = c.in_err-put_plain.field-0.0 in
    let stopped = blanks-stopped (screen dialog c.loop.self) now (c.args.count - c.loop.counter) e (omega arith) c.in_err-put_plain.ensures in
    prints_on (screen dialog c.args.self.now) now (replicate c.args.count 0x20) _ e c.from_residual.ensures.1 (c.loop.invariant now (Err e) stopped)

pub loop-preserved : goal.loop-preserved
loop-preserved g c = λ now r rest.
    c.loop.invariant now r (blanks-more _ (screen g.C.Console.dialog c.put_plain.new.self) now (c.args.count - c.loop.counter) (c.args.count - (c.loop.counter + 1)) r (omega arith) c.in_ok-put_plain.ensures rest)

pub returns : goal.returns
returns g c = c.loop.invariant (screen g.C.Console.dialog c.loop.self) (Ok tt) (no_blanks _ (c.args.count - c.loop.counter) (omega arith))
