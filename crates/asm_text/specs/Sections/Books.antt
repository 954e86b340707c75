-- What it means that a book is right about some lines, as a call shows them or as written.
use Rattle.std.specs.Prelude.{◌≡◌, ℕ, ◌-◌, List, Option, map, take, drop}
use Rattle.asm_text.specs.declared.matching.Role.{Role}
use Rattle.asm_line.specs.Replacing.Replaced.{ReplacementTable}
use Rattle.asm_text.specs.Stands.{Stand, role_in}
use Rattle.asm_text.specs.declared.book.Book.{Book}

-- the roles of the lines from index `from` to the one before `to`
abbrev pub roles_between : List (List ℕ) → Option ReplacementTable → ℕ → ℕ → List Role
roles_between texts names from to = map (role_in names) (take (to - from) (drop from texts))

-- The roles in the book are those of the lines from its first one to some line.
abbrev pub IsOf : List (List ℕ) → Option ReplacementTable → Book → Type 0
IsOf texts names b = (to : ℕ) × (b.links ≡ roles_between texts names b.at to)

-- The book is right: its roles are those of some lines, and the lines from its `from` to its `to` have the roles that they have as
-- written.
abbrev pub IsBook : List (List ℕ) → Option ReplacementTable → Book → Type 0
IsBook texts names b = IsOf texts names b × Stand texts names b.from b.to
