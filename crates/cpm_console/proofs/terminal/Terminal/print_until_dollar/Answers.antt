use Rattle.std.proofs.Common.{◌+◌, ◌-◌, ◌%◌, [], ◌∷◌, Ok, Err, ap, refl, sym, ◌∙◌, arith}
use Rattle.cpm_console.specs.Screen.{screen}
use Rattle.cpm_console.specs.Text.{before_dollar, bytes_from}
use Rattle.cpm_console.proofs.Texts.{at_dollar, bytes-more, dollar-more, no_bytes, shows_front, shows_none, shows_on, shows_stopped}
use Rattle.cpm_console.proofs.terminal.Terminal.print_until_dollar.Goals as goal

pub returns-then-byte-eq36 : goal.returns-then-byte-eq36
returns-then-byte-eq36 g c = λ memory reads.
    let at = c.loop.address in
    let left = 65536 - c.loop.counter in
    let rest = 65536 - (c.loop.counter + 1) in
    let byte = reads at c.byte_at-byte.result (omega (arith, c.loop.auto.address-fits)) c.byte_at-byte.ensures in
    let text = bytes-more memory at left rest ((at + 1) % 65536) (omega arith) refl in
    let none = at_dollar (bytes_from memory at left) (bytes_from memory ((at + 1) % 65536) rest) (memory at) text (sym byte ∙ c.if-byte-eq36.true) in
    let here = screen g.C.Console.dialog c.loop.self in
    c.loop.invariant memory here (Ok tt) reads (shows_none here (before_dollar (bytes_from memory at left)) none)

pub returns-in_err-put_char : goal.returns-in_err-put_char
returns-in_err-put_char g c = λ memory reads.
    let dialog = g.C.Console.dialog in
    let at = c.loop.address in
    let left = 65536 - c.loop.counter in
    let rest = 65536 - (c.loop.counter + 1) in
    let after = bytes_from memory ((at + 1) % 65536) rest in
    let byte = reads at c.byte_at-byte.result (omega (arith, c.loop.auto.address-fits)) c.byte_at-byte.ensures in
    let text = bytes-more memory at left rest ((at + 1) % 65536) (omega arith) refl ∙ ap (λ b. b ∷ after) (sym byte) in
    let more = dollar-more (bytes_from memory at left) after c.byte_at-byte.result text c.if-byte-eq36.false in
    let now = screen dialog c.put_char.new.self in
    let e = c.in_err-put_char.field-0.0 in
    let stopped = shows_stopped (screen dialog c.loop.self) now (before_dollar (bytes_from memory at left)) (c.byte_at-byte.result ∷ []) (before_dollar after) e more c.in_err-put_char.ensures in
    shows_on (screen dialog c.args.self.now) now (before_dollar (bytes_from memory c.args.from 65536)) _ e c.from_residual.ensures.1 (c.loop.invariant memory now (Err e) reads stopped)

pub loop-preserved : goal.loop-preserved
loop-preserved g c = λ memory now r reads more_text.
    let dialog = g.C.Console.dialog in
    let at = c.loop.address in
    let left = 65536 - c.loop.counter in
    let rest = 65536 - (c.loop.counter + 1) in
    let next = (at + 1) % 65536 in
    let after = bytes_from memory next rest in
    let byte = reads at c.byte_at-byte.result (omega (arith, c.loop.auto.address-fits)) c.byte_at-byte.ensures in
    let text = bytes-more memory at left rest next (omega arith) refl ∙ ap (λ b. b ∷ after) (sym byte) in
    let more = dollar-more (bytes_from memory at left) after c.byte_at-byte.result text c.if-byte-eq36.false in
    c.loop.invariant memory now r reads (shows_front (screen dialog c.loop.self) (screen dialog c.put_char.new.self) now (before_dollar (bytes_from memory at left)) (c.byte_at-byte.result ∷ []) (before_dollar after) r more c.in_ok-put_char.ensures more_text)

pub returns : goal.returns
returns g c = λ memory reads.
    let here = screen g.C.Console.dialog c.loop.self in
    let left = 65536 - c.loop.counter in
    c.loop.invariant memory here (Ok tt) reads (shows_none here (before_dollar (bytes_from memory c.loop.address left)) (ap before_dollar (no_bytes memory c.loop.address left (omega arith))))
