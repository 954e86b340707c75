use Rattle.std.proofs.Common.{◌≡◌, ◌<◌, Ok, Err, None, refl, arith, length, length-take}
use Rattle.cpm_console.specs.Screen.{screen}
use Rattle.cpm_console.specs.Line.{edited, typed_line}
use Rattle.cpm_console.specs.Private.Draft.{line_at}
use Rattle.cpm_console.proofs.Lines.{at_break, at_end, ended_full, ends_on, get-failed, got, not_so, shorter, show-failed, some_stored, turn}
use Rattle.cpm_console.proofs.terminal.Terminal.read_line.Goals as goal

pub returns-in_err-byte : goal.returns-in_err-byte
returns-in_err-byte g c =
    let dialog = g.C.Console.dialog in
    let begun = screen dialog c.args.self.now in
    let here = screen dialog c.loop-line.self in
    let now = record here { dialog = dialog c.get.new.self } in
    let buffer = c.loop-line.buffer in
    let line = line_at c.loop-line.line buffer c.loop-line.self.column in
    let e = c.in_err-byte.field-0.0 in
    let room : length line.bytes < c.args.room = omega (arith, length-take c.loop-line.line.len buffer) in
    let failed = get-failed c.args.room line here now buffer e room c.in_err-byte.ensures refl in
    ends_on (typed_line c.args.room begun) begun now buffer _ e c.from_residual.ensures.1 (c.loop-line.invariant.0 now buffer (Err e) failed)

pub returns-then-is_end : goal.returns-then-is_end
returns-then-is_end g c =
    let dialog = g.C.Console.dialog in
    let here = screen dialog c.loop-line.self in
    let mid = record here { dialog = dialog c.get.new.self } in
    let now = screen dialog c.end_line.new.self in
    let buffer = c.loop-line.buffer in
    let line = line_at c.loop-line.line buffer c.loop-line.self.column in
    let byte = c.in_ok-byte.byte in
    let room : length line.bytes < c.args.room = omega (arith, length-take c.loop-line.line.len buffer) in
    let took = got here mid byte c.in_ok-byte.ensures refl in
    let end = c.is_end.ensures.0 c.if-is_end.true in
    c.loop-line.invariant.0 now buffer _ (at_end c.args.room byte c.of-key.result line here mid now buffer _ room took c.of-key.ensures end (c.end_line.ensures line buffer refl))

pub returns-then-is_warm_boot : goal.returns-then-is_warm_boot
returns-then-is_warm_boot g c =
    let dialog = g.C.Console.dialog in
    let here = screen dialog c.loop-line.self in
    let mid = record here { dialog = dialog c.get.new.self } in
    let buffer = c.loop-line.buffer in
    let line = line_at c.loop-line.line buffer c.loop-line.self.column in
    let byte = c.in_ok-byte.byte in
    let room : length line.bytes < c.args.room = omega (arith, length-take c.loop-line.line.len buffer) in
    let took = got here mid byte c.in_ok-byte.ensures refl in
    let boot = c.is_warm_boot.ensures.0 c.if-is_warm_boot.true in
    let empty : length line.bytes ≡ 0 = omega (arith, length-take c.loop-line.line.len buffer, boot.1) in
    c.loop-line.invariant.0 mid buffer (Ok None) (at_break c.args.room byte c.of-key.result line here mid buffer room empty took c.of-key.ensures boot.0)

pub returns-in_err-show : goal.returns-in_err-show
returns-in_err-show g c =
    let dialog = g.C.Console.dialog in
    let begun = screen dialog c.args.self.now in
    let here = screen dialog c.loop-line.self in
    let mid = record here { dialog = dialog c.get.new.self } in
    let now = screen dialog c.show.new.self in
    let buffer = c.loop-line.buffer in
    let line = line_at c.loop-line.line buffer c.loop-line.self.column in
    let byte = c.in_ok-byte.byte in
    let key = c.of-key.result in
    let e = c.in_err-show.field-0.0 in
    let size : length line.bytes ≡ c.loop-line.line.len = omega (arith, length-take c.loop-line.line.len buffer, c.loop-line.invariant.1) in
    let took = got here mid byte c.in_ok-byte.ensures refl in
    let no_end = not_so c.is_end.result c.if-is_end.false c.is_end.ensures.1 in
    let no_break = some_stored key c.is_warm_boot.result c.loop-line.line.len line.bytes c.if-is_warm_boot.false c.is_warm_boot.ensures.1 (omega arith) in
    let failed = show-failed c.args.room byte key line here mid now buffer e (omega arith) took c.of-key.ensures no_end no_break refl c.in_err-show.ensures in
    ends_on (typed_line c.args.room begun) begun now buffer _ e c.from_residual-in_err-show.ensures.1 (c.loop-line.invariant.0 now buffer (Err e) failed)

pub loop-line-preserved : goal.loop-line-preserved
loop-line-preserved g c = (
  λ now after r rest.
      let dialog = g.C.Console.dialog in
      let here = screen dialog c.loop-line.self in
      let mid = record here { dialog = dialog c.get.new.self } in
      let next = screen dialog c.show.new.self in
      let buffer = c.loop-line.buffer in
      let line = line_at c.loop-line.line buffer c.loop-line.self.column in
      let left = line_at c.stored-line.result c.stored-line.new.buffer c.show.new.self.column in
      let byte = c.in_ok-byte.byte in
      let key = c.of-key.result in
      let size : length line.bytes ≡ c.loop-line.line.len = omega (arith, length-take c.loop-line.line.len buffer, c.loop-line.invariant.1) in
      let took = got here mid byte c.in_ok-byte.ensures refl in
      let no_end = not_so c.is_end.result c.if-is_end.false c.is_end.ensures.1 in
      let no_break = some_stored key c.is_warm_boot.result c.loop-line.line.len line.bytes c.if-is_warm_boot.false c.is_warm_boot.ensures.1 (omega arith) in
      c.loop-line.invariant.0 now after r
      (turn c.args.room byte key line left here mid next now after r (omega arith) took c.of-key.ensures no_end no_break refl c.in_ok-show.ensures
      (c.stored-line.ensures.bytes line.column) (c.stored-line.ensures.start line.column) refl rest),
  c.stored-line.array_long,
)

pub loop-line-smaller : goal.loop-line-smaller
loop-line-smaller g c =
    let dialog = g.C.Console.dialog in
    let here = screen dialog c.loop-line.self in
    let mid = record here { dialog = dialog c.get.new.self } in
    let took = got here mid c.in_ok-byte.byte c.in_ok-byte.ensures refl in
    shorter here mid (screen dialog c.show.new.self) c.in_ok-byte.byte (edited c.of-key.result c.in_ok-byte.byte (line_at c.loop-line.line c.loop-line.buffer c.loop-line.self.column)).text took c.in_ok-show.ensures

pub returns : goal.returns
returns g c =
    let dialog = g.C.Console.dialog in
    let here = screen dialog c.loop-line.self in
    let now = screen dialog c.end_line-2.new.self in
    let buffer = c.loop-line.buffer in
    let line = line_at c.loop-line.line buffer c.loop-line.self.column in
    let size : length line.bytes ≡ c.loop-line.line.len = omega (arith, length-take c.loop-line.line.len buffer, c.loop-line.invariant.1) in
    c.loop-line.invariant.0 now buffer _ (ended_full c.args.room line here now buffer _ (omega arith) (c.end_line-2.ensures line buffer refl))
