-- The names of a source: labels, externals, and the names that EQU defines.
-- In words: docs/LANGUAGE.md, section 'Names, numbers, strings'.
use Rattle.std.specs.Prelude.{ℕ, Bool, true, false, ◌||◌, List, [], ◌∷◌, ◌++◌, Option, Some, None, if◌then◌else◌, map, is_some}
use Rattle.std.specs.List.{flat_map, fold}
use Rattle.std.specs.Map.{lookup}
use Rattle.std.specs.Str.{bytes_eq}
use Rattle.asm_spell.specs.Line as line
use Rattle.asm_spell.specs.Line.{Body, Line}
use Rattle.asm_names.specs.declared.kind.Kind.{Kind}
use Rattle.asm_names.specs.Lines.{Taken, placed}

-- names, and what each is, in order
abbrev pub Names : Type 0
Names = List (List ℕ × Kind)

-- what a name is, if it is among these
abbrev pub kind_of_name : Names → List ℕ → Option Kind
kind_of_name names name = lookup (bytes_eq name) names

-- the label of line `at`, if it has one
abbrev pub label_definition : ℕ → Option (List ℕ) → Names
label_definition at None = []
label_definition at (Some name) = (name, Kind.Label at) ∷ []

-- the names of an EXTRN
abbrev pub declared : Option Body → Names
declared (Some (line.External names)) = map (λ name. (name, Kind.External)) names
declared _ = []

-- the names that line `at` defines, from left to right
abbrev pub defines : ℕ → Line → Names
defines at (line.Equ name e) = (name, Kind.Equ at) ∷ []
defines at (line.Statement label body) = label_definition at label ++ declared body

-- all definitions of the lines, in order
abbrev pub definitions : List Taken → Names
definitions lines = flat_map (λ l. defines l.0 l.1.line) (placed lines)

-- the names with one more added; a name that is there already stays as it is
abbrev pub with_name : Names → List ℕ × Kind → Names
with_name names d = if is_some (kind_of_name names d.0) then names else names ++ d ∷ []

abbrev pub with_names : Names → Names → Names
with_names names more = fold with_name names more

-- The names of the lines, in the order in which they are first defined.
abbrev pub names : List Taken → Names
names lines = with_names [] (definitions lines)

-- Whether a definition clashes with an earlier one: an external may be declared again, and any other name is defined once.
abbrev pub clashes : Kind → Option Kind → Bool
clashes kind None = false
clashes Kind.External (Some Kind.External) = false
clashes kind (Some other) = true

-- whether one of these definitions clashes with a name before it
abbrev pub has_clash : Names → Names → Bool
has_clash names [] = false
has_clash names (d ∷ ds) = clashes d.1 (kind_of_name names d.0) || has_clash (with_name names d) ds
