use Rattle.std.proofs.Common.{◌+◌, Ok, Err, ap, drop, get_or, arith}
use Rattle.std.specs.List.{flat_map}
use Rattle.std.proofs.lemmas.List.{drop_all, drop_more}
use Rattle.cpm_console.specs.Screen.{screen}
use Rattle.cpm_console.specs.Line.{echo_of}
use Rattle.cpm_console.proofs.Texts.{flat_map-more, shows_front, shows_none, shows_on, shows_stopped}
use Rattle.cpm_console.proofs.terminal.Terminal.echo_all.Goals as goal

pub returns-in_err-echo : goal.returns-in_err-echo
returns-in_err-echo g c =
    let dialog = g.C.Console.dialog in
    let bytes = c.args.bytes.now in
    let i = c.loop-byte.byte-index in
    let now = screen dialog c.echo.new.self in
    let e = c.in_err-echo.field-0.0 in
    let left = flat_map-more echo_of (drop i bytes) (drop (i + 1) bytes) (get_or bytes i 0) (drop_more bytes i 0 (omega arith)) in
    let stopped = shows_stopped (screen dialog c.loop-byte.self) now (flat_map echo_of (drop i bytes)) (echo_of (get_or bytes i 0)) (flat_map echo_of (drop (i + 1) bytes)) e left c.in_err-echo.ensures in
    shows_on (screen dialog c.args.self.now) now (flat_map echo_of bytes) _ e c.from_residual.ensures.1 (c.loop-byte.invariant now (Err e) stopped)

pub loop-byte-preserved : goal.loop-byte-preserved
loop-byte-preserved g c = λ now r rest.
    let bytes = c.args.bytes.now in
    let i = c.loop-byte.byte-index in
    let next = screen g.C.Console.dialog c.echo.new.self in
    let left = flat_map-more echo_of (drop i bytes) (drop (i + 1) bytes) (get_or bytes i 0) (drop_more bytes i 0 (omega arith)) in
    c.loop-byte.invariant now r (shows_front _ next now (flat_map echo_of (drop i bytes)) (echo_of (get_or bytes i 0)) (flat_map echo_of (drop (i + 1) bytes)) r left c.in_ok-echo.ensures rest)

pub returns : goal.returns
returns g c =
    let bytes = c.args.bytes.now in
    let i = c.loop-byte.byte-index in
    c.loop-byte.invariant (screen g.C.Console.dialog c.loop-byte.self) (Ok tt) (shows_none _ (flat_map echo_of (drop i bytes)) (ap (flat_map echo_of) (drop_all i bytes (omega arith))))
