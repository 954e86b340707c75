-- Why modules make no program: each kind of error, and which of them is reported.
use Rattle.std.specs.Prelude.{◌≡◌, ◌&&◌, Bool, not, ◌==◌, List, [], ◌∷◌, Option, Some, None, Result, Ok, Err, if◌then◌else◌, is_some, length, nat_lt, take}
use Rattle.std.specs.List.{enumerate_from, sum_by}
use Rattle.std.specs.Option.{option_and_then}
use Rattle.common.specs.declared.limits.TheConstants.{MOST_STATEMENTS}
use Rattle.zmo_object.specs.Modules.{Module}
use Rattle.zlink.specs.declared.program.fault.JoinFault.{JoinFault}
use Rattle.zlink.specs.declared.program.joining.Links.{Links}
use Rattle.zlink.specs.Program.Parts.{ModulePart, Publics, public_found, given_label, label_at, parts, all_publics}
use Rattle.zlink.specs.Program.Whole.{AreLinks}

abbrev pub some_or_else : {A : Type 0} → Option A → Option A → Option A
some_or_else None other = other
some_or_else (Some x) other = Some x

-- the first error that f finds in the members of a list
abbrev pub first_of : {A B : Type 0} → (A → Option B) → List A → Option B
first_of f [] = None
first_of f (x ∷ xs) = some_or_else (f x) (first_of f xs)

-- the error if the condition holds
abbrev pub fault_if : JoinFault → Bool → Option JoinFault
fault_if fault holds = if holds then Some fault else None

-- there are more statements than a program may have
abbrev pub too_many : List Module → Option JoinFault
too_many modules = fault_if JoinFault.TooManyStatements (nat_lt MOST_STATEMENTS (sum_by (λ m. length m.statements) modules))

-- the module says ORG 0100H, but is not the first
abbrev pub begins_late : ModulePart → Option JoinFault
begins_late p = fault_if (JoinFault.BeginsNotFirst p.number) (nat_lt 0 p.number && p.holds.begins)

-- a public label of the part whose name an earlier module defines
abbrev pub twice : List ModulePart → ModulePart → Option JoinFault
twice before p = first_of (λ l. fault_if (JoinFault.DefinedTwice p.number l) (is_some (public_found (all_publics before) (label_at p.holds l).name))) p.holds.publics

-- an external of the part that no module defines
abbrev pub unresolved : Publics → ModulePart → Option JoinFault
unresolved publics p = first_of (λ x. fault_if (JoinFault.Unresolved p.number x.0) (not (is_some (public_found publics x.1)))) (enumerate_from 0 p.holds.externals)

-- the entry of the part is not the first statement of the program
abbrev pub enters_late : ModulePart → Option JoinFault
enters_late p = option_and_then (λ e. fault_if (JoinFault.EntryNotFirst p.number) (not ((given_label p e).1 == 0))) p.holds.entry

-- The first error of modules together. The kinds are looked for in this order, and the first error of the first kind is reported.
abbrev pub first_fault : List Module → Option JoinFault
first_fault modules = first_of (λ fault. fault)
    (too_many modules ∷ first_of begins_late (parts modules) ∷ first_of (λ p. twice (take p.number (parts modules)) p) (parts modules)
    ∷ first_of (unresolved (all_publics (parts modules))) (parts modules) ∷ first_of enters_late (parts modules) ∷ [])

-- What `join` answers. If memory ran out, nothing is claimed.
abbrev pub IsJoined : List Module → Result (List Links) JoinFault → Type 0
IsJoined modules (Ok links) = (first_fault modules ≡ None) × AreLinks modules links
IsJoined modules (Err JoinFault.NoMemory) = Unit {0}
IsJoined modules (Err fault) = first_fault modules ≡ Some fault
