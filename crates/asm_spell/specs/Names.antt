-- The names of a line.
use Rattle.std.specs.Prelude.{ℕ, List, [], ◌∷◌, Some}
use Rattle.asm_spell.specs.Line.{Body, Jump, Short, Line, Equ, Statement}
use Rattle.asm_spell.specs.Spelling.{statement_names}

-- the names that a line defines or passes on
abbrev pub line_names : Line → List (List ℕ)
line_names (Equ name e) = name ∷ []
line_names (Statement label body) = statement_names label body

-- the target of a line's jump, if it is a jump to a name
abbrev pub body_targets : Body → List (List ℕ)
body_targets (Jump condition target) = target ∷ []
body_targets (Short branch target) = target ∷ []
body_targets _ = []

abbrev pub line_targets : Line → List (List ℕ)
line_targets (Statement label (Some body)) = body_targets body
line_targets _ = []
