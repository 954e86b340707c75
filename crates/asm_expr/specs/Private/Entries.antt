-- The table of names that the code keeps in a map.
use Rattle.std.specs.Prelude.{◌≤◌, ℕ, List, Option, Some, None, All, length, map, take}
use Rattle.std.specs.declared.vec.Vec.{Vec}
use Rattle.asm_expr.specs.declared.answer.Settled.{Settled}
use Rattle.asm_expr.specs.declared.meaning.Meaning.{Meaning}
use Rattle.asm_expr.specs.declared.names.Entry.{Entry}
use Rattle.asm_parse.specs.declared.values.statement.Statement.{Statement}
use Rattle.asm_expr.specs.Names.{Table, empty}
use Rattle.asm_expr.specs.Private.Left.{IsLeft}

-- the entries of a map with names as keys, and f of each value
abbrev pub named_as : {A V W : Type 0} → (V → W) → List (Vec ℕ A × V) → List (List ℕ × W)
named_as f entries = map (λ e. (e.0.items, f e.1)) entries

abbrev pub named : {A V : Type 0} → List (Vec ℕ A × V) → List (List ℕ × V)
named entries = named_as (λ v. v) entries

-- what each name stands for
abbrev pub meant : {A : Type 0} → List (Vec ℕ A × Entry) → List (List ℕ × Meaning)
meant entries = named_as (λ e. e.meaning) entries

abbrev pub table_of : {A : Type 0} → List (Vec ℕ A × Entry) → ℕ → List Statement → Table
table_of entries here statements = record { entries = meant entries; here = here; statements = statements }

-- settling with these statements leaves the expression as it is
abbrev pub IsLeftBy : List Statement → Settled → Type 0
IsLeftBy statements (Settled.Known items) = IsLeft (record empty { statements = statements }) items
IsLeftBy statements (Settled.Unknown what) = Unit {0}

-- If the number is there, settling with that many of the statements leaves the expression of this meaning as it is.
abbrev pub Knows : List Statement → Meaning → Option ℕ → Type 0
Knows statements (Meaning.Equ equated) (Some n) = (n ≤ length statements) × IsLeftBy (take n statements) equated.settled
Knows statements what (Some n) = Unit {0}
Knows statements what None = Unit {0}

abbrev pub AreKnown : {A : Type 0} → List Statement → List (Vec ℕ A × Entry) → Type 0
AreKnown statements entries = All (λ e. Knows statements e.meaning e.left_at) (map (λ e. e.1) entries)
