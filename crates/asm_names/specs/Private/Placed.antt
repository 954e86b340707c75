-- How the code defines labels and externals.
use Rattle.std.specs.Prelude.{◌≡◌, ◌+◌, ℕ, List, Option, Some, None}
use Rattle.std.specs.List.{filter_map}
use Rattle.asm_expr.specs.declared.meaning.Meaning.{Meaning}
use Rattle.asm_expr.specs.Names.{Table, with_meaning}
use Rattle.asm_names.specs.declared.kind.Kind.{Kind}
use Rattle.asm_names.specs.Names.{Names}
use Rattle.asm_names.specs.declared.places.Places.{Places}
use Rattle.asm_names.specs.Layout.{Layout, next_at}
use Rattle.asm_names.specs.Meanings.{Entries, external_ref}

-- what a label or an external stands for; None for a name that EQU defines
abbrev pub place_of : Names → Layout → List ℕ → Kind → Option Meaning
place_of names layout name (Kind.Label at) = Some (Meaning.Label (next_at layout at))
place_of names layout name Kind.External = Some (Meaning.External (external_ref names layout name))
place_of names layout name (Kind.Equ at) = None

abbrev pub place_by : Names → Layout → List ℕ → Option Kind → Option Meaning
place_by names layout name None = None
place_by names layout name (Some kind) = place_of names layout name kind

abbrev pub with_name : List ℕ → Option Meaning → Option (List ℕ × Meaning)
with_name name None = None
with_name name (Some what) = Some (name, what)

abbrev pub placed : Names → Layout → List ℕ × Kind → Option (List ℕ × Meaning)
placed names layout d = with_name d.0 (place_of names layout d.0 d.1)

-- the labels and externals among some names, and what they stand for
abbrev pub placed_of : Names → Layout → Names → Entries
placed_of names layout some = filter_map (placed names layout) some

-- The code has defined one more name, unless EQU defines it.
abbrev pub Defines : Layout → List ℕ → Kind → Places → Places → Type 0
Defines layout name (Kind.Label at) old new = new ≡ record old { names = with_meaning name (Meaning.Label (next_at layout at)) old.names }
Defines layout name Kind.External old new = new ≡ record old { names = with_meaning name (Meaning.External old.external) old.names; external = old.external + 1 }
Defines layout name (Kind.Equ at) old new = new ≡ old

-- The table has the labels and externals, and the statements.
pub record HasPlaces (names : Names) (layout : Layout) (t : Table) : Type 0 where
  pub entries : t.entries ≡ placed_of names layout names
  pub statements : t.statements ≡ layout.statements
