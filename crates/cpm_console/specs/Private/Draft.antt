-- The code keeps a line that is being typed at the front of a buffer.
use Rattle.std.specs.Prelude.{ℕ, List, take}
use Rattle.cpm_console.specs.Line.{EditedLine}
use Rattle.cpm_console.specs.declared.terminal.line.Draft.{Draft}

abbrev pub line_at : Draft → List ℕ → ℕ → EditedLine
line_at draft buffer column = record { bytes = take draft.len buffer; start = draft.start; column = column }
