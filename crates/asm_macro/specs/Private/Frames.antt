-- Where expansion continues after the current lines and the lines around them, as the code keeps it.
use Rattle.std.specs.Prelude.{ℕ, ◌+◌, List, [], ◌∷◌, Option, Some, None, length}
use Rattle.asm_line.specs.Replacing.Replaced.{ReplacementTable}
use Rattle.asm_text.specs.declared.book.Book.{Book}
use Rattle.asm_text.specs.declared.following.Following.{Following}
use Rattle.asm_text.specs.Sections.Books.{IsBook}
use Rattle.asm_text.specs.Sections.Views.{next_of}
use Rattle.asm_macro.specs.Ahead.{Around}

-- How many repetitions are open, given where expansion continues, the innermost first.
abbrev pub turns_in : List Following → ℕ
turns_in [] = 0
turns_in (Following.Turns left number body ∷ around) = turns_in around + 1
turns_in (_ ∷ around) = turns_in around

-- The names that the innermost call replaces in the current lines, or None outside of calls.
abbrev pub innermost : List ReplacementTable → Option ReplacementTable
innermost [] = None
innermost (table ∷ tables) = Some table

-- the open calls of the lines around
abbrev pub outside : Following → List ReplacementTable → List ReplacementTable
outside (Following.Rest s) (table ∷ tables) = tables
outside _ tables = tables

-- where expansion continues after the current lines, after the lines around them, and so on
abbrev pub around_seen : List (List ℕ) → List ReplacementTable → List Following → List Around
around_seen texts tables [] = []
around_seen texts tables (f ∷ around) =
    let out = outside f tables in
    record { depth = length out + turns_in around; next = next_of texts (innermost out) f } ∷ around_seen texts out around

-- the open calls without the innermost one
abbrev pub below : List ReplacementTable → List ReplacementTable
below [] = []
below (table ∷ tables) = tables

-- The tables of where blocks end for the lines around the open calls, the innermost first.
abbrev pub AreBooks : List (List ℕ) → List ReplacementTable → List Book → Type 0
AreBooks texts tables [] = Unit {0}
AreBooks texts tables (book ∷ books) = IsBook texts (innermost (below tables)) book × AreBooks texts (below tables) books
