-- The errors of a line, given the lines before it: first each error by itself, then which of them is reported.
-- In words: docs/LANGUAGE.md, section 'Names, numbers, strings'.
use Rattle.std.specs.Prelude.{◌≡◌, ℕ, ◌&&◌, Bool, true, false, List, [], ◌∷◌, ◌++◌, Option, Some, None, Result, Ok, Err, if◌then◌else◌, length, count_by, nat_le, nat_lt}
use Rattle.std.specs.Option.{option_map}
use Rattle.common.specs.declared.limits.TheConstants.{MOST_NAMES, MOST_STATEMENTS}
use Rattle.asm_names.specs.declared.fault.NameFault.{NameFault}
use Rattle.asm_names.specs.Lines.{Taken, has_statement}
use Rattle.asm_names.specs.Names.{Names, defines, names, has_clash, with_names}

-- the first element that is not None
abbrev pub first : {A : Type 0} → List (Option A) → Option A
first [] = None
first (Some x ∷ xs) = Some x
first (None ∷ xs) = first xs

-- this error, if the condition holds
abbrev pub if_so : {A : Type 0} → A → Bool → Option A
if_so fault holds = if holds then Some fault else None

-- the line defines a name that a line before it, or the line itself, defines already
abbrev pub duplicate : List Taken → Taken → Option NameFault
duplicate before l = if_so NameFault.Duplicate (has_clash (names before) (defines (length before) l.line))

-- the line has a statement, and as many as a module may have come before it
abbrev pub too_many_statements : List Taken → Taken → Option NameFault
too_many_statements before l = if_so NameFault.TooManyStatements (has_statement l.line && nat_le MOST_STATEMENTS (count_by (λ b. has_statement b.line) before))

-- with this line there are more names than a module may have
abbrev pub too_many_names : List Taken → Taken → Option NameFault
too_many_names before l = if_so NameFault.TooManyNames (nat_lt MOST_NAMES (length (names (before ++ l ∷ []))))

-- the first error of a line
abbrev pub name_fault : List Taken → Taken → Option NameFault
name_fault before l = first (duplicate before l ∷ too_many_statements before l ∷ too_many_names before l ∷ [])

-- the first error of a line, with the number that the line bears
abbrev pub at_line : List Taken → Taken → Option (ℕ × NameFault)
at_line before l = option_map (λ why. (l.number, why)) (name_fault before l)

-- for each line, its first error, given the lines before it
abbrev pub name_faults : List Taken → List Taken → List (Option (ℕ × NameFault))
name_faults before [] = []
name_faults before (l ∷ ls) = at_line before l ∷ name_faults (before ++ l ∷ []) ls

-- The first error of a source's lines, each judged by the lines before it.
abbrev pub first_name_fault : List Taken → Option (ℕ × NameFault)
first_name_fault lines = first (name_faults [] lines)

-- `names_of` answers the names of the lines if there is no error, and the first error otherwise. It may also report that memory ran
-- out, which says nothing about the lines.
abbrev pub IsNamed : List Taken → Result Names (ℕ × NameFault) → Type 0
IsNamed lines (Ok table) = (first_name_fault lines ≡ None) × (table ≡ names lines)
IsNamed lines (Err (number, NameFault.NoMemory)) = Unit {0}
IsNamed lines (Err (number, why)) = first_name_fault lines ≡ Some (number, why)

-- The definitions were added to a table of names, and none clashes; or one clashes. If memory ran out, nothing is known.
abbrev pub TakesUp : Names → Names → Result (Unit {0}) NameFault → Names → Type 0
TakesUp old more (Ok done) new = (has_clash old more ≡ false) × (new ≡ with_names old more)
TakesUp old more (Err NameFault.Duplicate) new = has_clash old more ≡ true
TakesUp old more (Err NameFault.NoMemory) new = Unit {0}
TakesUp old more (Err why) new = ⊥
