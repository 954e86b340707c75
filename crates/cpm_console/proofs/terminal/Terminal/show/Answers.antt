use Rattle.std.proofs.Common.{◌<◌, ◌∷◌, sym, subst, length}
use Rattle.std.specs.List.{flat_map}
use Rattle.cpm_console.specs.Screen.{screen}
use Rattle.cpm_console.specs.Text.{PutsText}
use Rattle.cpm_console.specs.Line.{echo_of, edited, line_end}
use Rattle.cpm_console.specs.Private.Draft.{line_at}
use Rattle.cpm_console.proofs.Lines.{text-Retype, text-TakeOut}
use Rattle.cpm_console.proofs.Texts.{shows_front, shows_on, shows_stopped}
use Rattle.cpm_console.proofs.terminal.Terminal.show.Goals as goal

pub returns-in_err-put_text-in-Retype : goal.returns-in_err-put_text-in-Retype
returns-in_err-put_text-in-Retype g c =
    let dialog = g.C.Console.dialog in
    let old = screen dialog c.args.self.now in
    let now = screen dialog c.put_text-in-Retype.new.self in
    let line = line_at c.args.line c.args.buffer.now c.args.self.now.column in
    let text = (edited c.args.key c.args.byte line).text in
    let e = c.in_err-put_text-in-Retype.field-0.0 in
    shows_on old now text _ e c.from_residual.ensures.1
    (shows_stopped old now text (0x23 ∷ line_end) (flat_map echo_of line.bytes) e (text-Retype c.args.key c.args.byte line c.in-Retype.is) c.in_err-put_text-in-Retype.ensures)

pub returns-in-len1-up : goal.returns-in-len1-up
returns-in-len1-up g c =
    let dialog = g.C.Console.dialog in
    let line = line_at c.args.line c.args.buffer.now c.args.self.now.column in
    let some : 0 < length line.bytes = rw c.from.ensures at c.in-len1-up.len_at_least in
    subst (λ t. PutsText (screen dialog c.args.self.now) (screen dialog c.put_text.new.self) t c.put_text.result) (sym (text-TakeOut c.args.key c.args.byte line c.in-TakeOut.is some)) c.put_text.ensures

pub returns-in_ok-put_text-in-Retype : goal.returns-in_ok-put_text-in-Retype
returns-in_ok-put_text-in-Retype g c =
    let dialog = g.C.Console.dialog in
    let old = screen dialog c.args.self.now in
    let next = screen dialog c.put_text-in-Retype.new.self in
    let now = screen dialog c.echo_all.new.self in
    let line = line_at c.args.line c.args.buffer.now c.args.self.now.column in
    let text = (edited c.args.key c.args.byte line).text in
    shows_front old next now text (0x23 ∷ line_end) (flat_map echo_of line.bytes) c.echo_all.result (text-Retype c.args.key c.args.byte line c.in-Retype.is) c.in_ok-put_text-in-Retype.ensures (rw c.from.ensures at c.echo_all.ensures)
