-- The roles of lines as a call shows them, compared with their roles as written.
use Rattle.std.specs.Prelude.{◌≡◌, ◌≤◌, ◌<◌, ℕ, List, [], Option, None, length, slice_index_or}
use Rattle.asm_text.specs.declared.matching.Role.{Role}
use Rattle.asm_line.specs.Replacing.Replaced.{ReplacementTable}
use Rattle.asm_text.specs.Lines.{form_of}
use Rattle.asm_text.specs.Roles.{role_of_head}
use Rattle.asm_text.specs.Spans.{shown}

-- the role of a line in a call with these replacements, or as written if there is no call
abbrev pub role_in : Option ReplacementTable → List ℕ → Role
role_in names text = role_of_head (form_of (shown names text)).head

-- Line k has the role in the call that it has as written.
abbrev pub Stands : List (List ℕ) → Option ReplacementTable → ℕ → Type 0
Stands texts names k = role_in names (slice_index_or texts k []) ≡ role_in None (slice_index_or texts k [])

-- Each line from `from` to the one before `to` has the role in the call that it has as written.
abbrev pub Stand : List (List ℕ) → Option ReplacementTable → ℕ → ℕ → Type 0
Stand texts names from to = (k : ℕ) → from ≤ k → k < to → k < length texts → Stands texts names k
