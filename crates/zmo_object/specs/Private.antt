-- Only private contracts cite these definitions, so a reviewer may skip them.
use Rattle.std.specs.Prelude.{◌≡◌, ◌≤◌, ℕ, List, [], ◌∷◌, ◌++◌, Result, Ok, Err, All, length, map}
use Rattle.zmo_object.specs.declared.module.TheConstants.{LONGEST_NAME}
use Rattle.zmo_object.specs.Modules as object
use Rattle.zmo_object.specs.Modules.{Label, Module, ModuleStatement, label_of}
use Rattle.zmo_object.specs.declared.field_fault.FieldFault.{FieldFault}
use Rattle.zmo_object.specs.Fields.Field.{FieldFails, Field}
use Rattle.zmo_object.specs.declared.header.Counts as count
use Rattle.zmo_object.specs.declared.header.Header as head
use Rattle.zmo_object.specs.declared.label.Lists as list
use Rattle.zmo_object.specs.Reading.{Counts, Header, Lists, with_label}

-- the numbers of a statement fit two bytes
abbrev pub FitsWords : ModuleStatement → Type 0
FitsWords (object.Bytes bytes holes) = (length bytes ≤ 65535) × (length holes ≤ 65535) × All (λ h. h.offset ≤ 65535) holes
FitsWords (object.Jump marked condition target) = Unit {0}
FitsWords (object.Short branch target) = Unit {0}
FitsWords (object.Space size fill) = Unit {0}

-- If a label was read, its name was added to the names so far. Otherwise the call failed as reading fails.
abbrev pub Labelled : {X : Type 0} → (X → Label × List ℕ) → List (List ℕ) → Result X FieldFault → List (List ℕ) → Field Label → Type 0
Labelled view old (Ok x) new read = (read ≡ Ok (view x)) × (new ≡ with_label old (view x).0)
Labelled view old (Err f) new read = FieldFails f read

-- If a name was read, it was added to the names so far. Otherwise the call failed as reading fails.
abbrev pub Named : {X : Type 0} → (X → List ℕ × List ℕ) → List (List ℕ) → Result X FieldFault → List (List ℕ) → Field (List ℕ) → Type 0
Named view old (Ok x) new read = (read ≡ Ok (view x)) × (new ≡ old ++ (view x).0 ∷ [])
Named view old (Err f) new read = FieldFails f read

-- the numbers of a module's header fit their fields
pub record FitsHeader (m : Module) : Type 0 where
  pub name : length m.name ≤ LONGEST_NAME
  pub statements : length m.statements ≤ 65535
  pub labels : length m.labels ≤ 65535
  pub publics : length m.publics ≤ 65535
  pub externals : length m.externals ≤ 65535

-- The values of the code's types as definitions see them.

abbrev pub counts_of : count.Counts → Counts
counts_of c = record { statements = c.statements; labels = c.labels; publics = c.publics; externals = c.externals }

abbrev pub header_of : head.Header → Header
header_of h = record { name = h.name.now; begins = h.begins; counts = counts_of h.counts; entry = h.entry }

abbrev pub lists_of : list.Lists → Lists
lists_of l = record { labels = map label_of l.labels.items; publics = l.publics.items; externals = map (λ name. name.items) l.externals.items }
