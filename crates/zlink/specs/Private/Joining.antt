-- What the steps of `join` answer.
use Rattle.std.specs.Prelude.{◌≡◌, ℕ, List, Option, Some, None, Result, Ok, Err, is_some, take}
use Rattle.zmo_object.specs.Modules.{Module}
use Rattle.zlink.specs.declared.program.fault.JoinFault.{JoinFault}
use Rattle.zlink.specs.Program.Faults.{first_of, fault_if, twice}
use Rattle.zlink.specs.Program.Parts.{ModulePart, Publics, public_found, label_at, parts}

-- refuses if there is an error
abbrev pub refused : Option JoinFault → Result (Unit {0}) JoinFault
refused None = Ok tt
refused (Some fault) = Err fault

-- `why` is this error, or memory ran out
abbrev pub Fails : Option JoinFault → JoinFault → Type 0
Fails fault JoinFault.NoMemory = Unit {0}
Fails fault why = fault ≡ Some why

-- The answer is the error if there is one, and otherwise a value that P holds of. If memory ran out, nothing is claimed.
abbrev pub Judges : {A : Type 0} → Option JoinFault → (A → Type 0) → Result A JoinFault → Type 0
Judges fault P (Ok x) = (fault ≡ None) × P x
Judges fault P (Err why) = Fails fault why

abbrev pub part : ℕ → ℕ → Module → ModulePart
part number base m = record { number = number; base = base; holds = m }

-- the error of a public label whose name is in the list
abbrev pub clash : Publics → ModulePart → ℕ → Option JoinFault
clash names p l = fault_if (JoinFault.DefinedTwice p.number l) (is_some (public_found names (label_at p.holds l).name))

-- the first public label of a part whose name is in the list
abbrev pub clashes : Publics → ModulePart → Option JoinFault
clashes names p = first_of (clash names p) p.holds.publics

-- the first public label of a part whose name an earlier part defines
abbrev pub once : List Module → ModulePart → Option JoinFault
once modules p = twice (take p.number (parts modules)) p
