-- The lines of a source, given the offset at which each ends.
use Rattle.std.specs.Prelude.{ℕ, List, [], ◌∷◌}
use Rattle.bstr.specs.Text.{part, without_terminator}

-- the lines from offset `from` on: each up to its end, without its LF or CR LF
abbrev pub lines_by : List ℕ → ℕ → List ℕ → List (List ℕ)
lines_by text from [] = []
lines_by text from (end ∷ ends) = without_terminator (part from end text) ∷ lines_by text end ends
