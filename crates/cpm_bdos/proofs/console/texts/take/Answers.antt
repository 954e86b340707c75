use Rattle.std.proofs.Common.{refl, ◌∙◌, sym}
use Rattle.cpm_console.specs.Screen.{screen}
use Rattle.cpm_bdos.proofs.Speaking.{not_echoed, not_taken}
use Rattle.cpm_bdos.proofs.console.texts.take.Goals as goal

pub returns-in-Err : goal.returns-in-Err
returns-in-Err g c =
    let old = screen g.C.Console.dialog c.args.terminal.now in
    let new = record old { dialog = g.C.Console.dialog c.get.new.self } in
    rw c.stop_of.ensures (not_taken old new c.in-Err.error c.in-Err.ensures refl)

pub returns-in-Err-put_char : goal.returns-in-Err-put_char
returns-in-Err-put_char g c =
    let old = screen g.C.Console.dialog c.args.terminal.now in
    let mid = record old { dialog = g.C.Console.dialog c.get.new.self } in
    let new = screen g.C.Console.dialog c.put_char.new.self in
    rw c.stop_of-in-Err-put_char.ensures (not_echoed old mid new c.in-Ok.byte c.in-Err-put_char.error c.in-Ok.ensures refl (sym c.is_echoed.ensures ∙ c.if-not-is_echoed.false) c.in-Err-put_char.ensures)
