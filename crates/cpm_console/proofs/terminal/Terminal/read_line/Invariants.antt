use Rattle.std.proofs.Common.{◌≡◌, ℕ, List, Option, Result, length}
use Rattle.cpm_console.specs.Screen.{Screen, screen}
use Rattle.cpm_console.specs.Line.{LineEnds, line_transcript, typed_line}
use Rattle.cpm_console.specs.Private.Draft.{line_at}
use Rattle.cpm_console.specs.declared.error.ConsoleError.{ConsoleError}
use Rattle.cpm_console.proofs.terminal.Terminal.read_line.Given as goal

-- reading the rest of the line from the input that is left completes the whole line
abbrev pub invariant-loop-line : goal.invariant-loop-line
invariant-loop-line g l =
    let dialog = g.C.Console.dialog in
    let here = screen dialog l.self in
    let begun = screen dialog l.fn.self in
    ((now : Screen) (buffer : List ℕ) (r : Result (Option ℕ) ConsoleError) → LineEnds (line_transcript l.room (line_at l.line l.buffer l.self.column) here.dialog.input) here now buffer r
    → LineEnds (typed_line l.room begun) begun now buffer r) × (length l.buffer ≡ 255)

-- each turn of the loop takes a byte
abbrev pub decreases-loop-line : goal.decreases-loop-line
decreases-loop-line g l = length (screen g.C.Console.dialog l.self).dialog.input
