-- What the code answers for definitions and lines, one after the other.
use Rattle.std.specs.Prelude.{◌≡◌, ◌<◌, ◌≤◌, ◌+◌, true, false, ℕ, List, [], ◌∷◌, ◌++◌, Option, Some, None, Result, Ok, Err, if◌then◌else◌, count_by, length, map}
use Rattle.common.specs.declared.limits.TheConstants.{MOST_STATEMENTS}
use Rattle.asm_spell.specs.Line.{Line}
use Rattle.asm_names.specs.declared.fault.NameFault.{NameFault}
use Rattle.asm_names.specs.declared.naming.Naming.{Naming}
use Rattle.asm_names.specs.declared.kind.Kind.{Kind}
use Rattle.asm_names.specs.Lines.{Taken, has_statement}
use Rattle.asm_names.specs.Names.{Names, clashes, kind_of_name, names, has_clash, with_name, with_names}
use Rattle.asm_names.specs.Faults.{name_fault}

-- the names of an EXTRN
abbrev pub externals : List (List ℕ) → Names
externals names = map (λ name. (name, Kind.External)) names

-- Adding the rest to the new names gives the same as adding all to the old ones.
pub record Goes_on (old all new rest : Names) : Type 0 where
  pub names : with_names new rest ≡ with_names old all
  pub repeated : has_clash new rest ≡ has_clash old all

-- A line's statement was counted; or it is one too many.
abbrev pub Counts : Naming → Line → Result (Unit {0}) NameFault → Naming → Type 0
Counts old l (Ok done) new = (has_statement l ≡ true → old.statements < MOST_STATEMENTS) × (new ≡ record old { statements = if has_statement l then old.statements + 1 else old.statements })
Counts old l (Err NameFault.TooManyStatements) new = (has_statement l ≡ true) × (MOST_STATEMENTS ≤ old.statements)
Counts old l (Err why) new = ⊥

-- The names and the count of statements are those of the lines before.
pub record IsBehind (before : List Taken) (at : ℕ) (naming : Naming) : Type 0 where
  pub count : at ≡ length before
  pub table : naming.table ≡ names before
  pub statements : naming.statements ≡ count_by (λ l. has_statement l.line) before

-- The line was taken, and has no error; or the answer is its first error. If memory ran out, nothing is known.
abbrev pub Goes : List Taken → Taken → Result (Unit {0}) NameFault → Naming → Type 0
Goes before l (Ok done) new = (name_fault before l ≡ None) × IsBehind (before ++ l ∷ []) (length before + 1) new
Goes before l (Err NameFault.NoMemory) new = Unit {0}
Goes before l (Err why) new = name_fault before l ≡ Some why
