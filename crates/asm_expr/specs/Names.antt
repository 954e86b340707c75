-- What names stand for, and the statements of a module in order.
-- In words: docs/LANGUAGE.md, section 'Expressions'.
use Rattle.std.specs.Prelude.{◌≡◌, ◌≤◌, ℕ, List, [], ◌∷◌, ◌++◌, Option, Some, length}
use Rattle.std.specs.Map.{lookup}
use Rattle.std.specs.Str.{bytes_eq}
use Rattle.asm_expr.specs.declared.answer.Settled.{Settled}
use Rattle.asm_expr.specs.declared.meaning.Meaning.{Meaning}
use Rattle.asm_parse.specs.declared.values.statement.Statement.{Statement}

-- Each name and what it stands for; the statement whose address is `$`; and the statements so far, in order.
pub record Table : Type 0 where
  pub entries : List (List ℕ × Meaning)
  pub here : ℕ
  pub statements : List Statement

abbrev pub empty : Table
empty = record { entries = []; here = 0; statements = [] }

-- what a name stands for, if it is in the table
abbrev pub found : Table → List ℕ → Option Meaning
found t name = lookup (bytes_eq name) t.entries

abbrev pub with_meaning : List ℕ → Meaning → Table → Table
with_meaning name what t = record t { entries = t.entries ++ (name, what) ∷ [] }

abbrev pub with_statement : Statement → Table → Table
with_statement statement t = record t { statements = t.statements ++ statement ∷ [] }

-- how many items a settled expression has; an expression without a value counts as one item
abbrev pub item_count : Settled → ℕ
item_count (Settled.Known items) = length items
item_count (Settled.Unknown what) = 1

-- An EQU name's expression stands for at least one term or operator, and for at least as many as it has items.
abbrev pub IsCounted : Meaning → Type 0
IsCounted (Meaning.Equ equated) = (1 ≤ equated.size) × (item_count equated.settled ≤ equated.size)
IsCounted _ = Unit {0}

-- That holds for each name of the table.
abbrev pub AreCounted : Table → Type 0
AreCounted t = (name : List ℕ) (what : Meaning) → found t name ≡ Some what → IsCounted what
