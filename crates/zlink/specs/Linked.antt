-- What `link` answers for modules.
use Rattle.std.specs.Prelude.{◌≡◌, ◌⊎◌, ℕ, ◌+◌, IsOk, List, Some, None, Result, Ok, Err, map}
use Rattle.std.specs.List.{flat_map}
use Rattle.relax.specs.Choice.{Choice, IsValid, place}
use Rattle.relax.specs.Growth.{after}
use Rattle.zmo_object.specs.Modules.{Module}
use Rattle.zlink.specs.declared.program.fault.JoinFault.{JoinFault}
use Rattle.zlink.specs.Program.Faults.{first_fault}
use Rattle.zlink.specs.Program.Parts.{parts}
use Rattle.zlink.specs.Program.Whole.{program}
use Rattle.zlink.specs.File.Objects.{ReadsObjects, grown, placed_shape}
use Rattle.zlink.specs.File.Places.{ArePlaces}
use Rattle.zlink.specs.declared.fault.LinkFault.{LinkFault}
use Rattle.zlink.specs.declared.fault.LinkFault.TheVariants as link
use Rattle.zlink.specs.declared.linking.Linked as linked
use Rattle.zlink.specs.declared.symbol.Symbol as symbol
use Rattle.zlink.specs.Judged.{IsBestAfter, IsUnfit}

-- A label: its name, the name of its module, and its address.
pub record Symbol : Type 0 where
  pub name : List ℕ
  pub module_name : List ℕ
  pub place : ℕ

-- the labels of a module whose first statement has the number `base` in the program
abbrev pub symbols_in : (ℕ → ℕ) → ℕ → Module → List Symbol
symbols_in places base m = map (λ l. record { name = l.name; module_name = m.name; place = places (base + l.statement) }) m.labels

-- the labels of all modules, in their order
abbrev pub all_symbols : (ℕ → ℕ) → List Module → List Symbol
all_symbols places modules = flat_map (λ p. symbols_in places p.base p.holds) (parts modules)

abbrev pub symbol_of : symbol.Symbol → Symbol
symbol_of s = record { name = s.name.items; module_name = s.module.items; place = s.place }

-- What linking makes: the file, the sizes file, the certificate, the labels, and the numbers of the written JRs that grew.
pub record Output : Type 0 where
  pub file : List ℕ
  pub sizes : List ℕ
  pub cert : List ℕ
  pub symbols : List Symbol
  pub grown : List ℕ

-- The file is the statements of the modules under the choice after the least-first order. No choice that fits takes fewer bytes. The other
-- outputs are those of that choice.
pub record IsOutput (modules : List Module) (order : List ℕ) (o : Output) : Type 0 where
  pub judged : IsBestAfter (placed_shape (program modules)) order o.sizes o.cert
  pub reads : ReadsObjects o.file (program modules) (after order)
  pub symbols : o.symbols ≡ all_symbols (place (after order) (placed_shape (program modules))) modules
  pub grown : o.grown ≡ grown (program modules) (after order)

abbrev pub linked_output : linked.Linked → Output
linked_output l = record { file = l.com.items; sizes = l.sizes.items; cert = l.cert.items; symbols = map symbol_of l.symbols.items; grown = l.grown.items }

-- the first error of the modules together, as an error of `link`
abbrev pub link_fault : JoinFault → LinkFault
link_fault JoinFault.TooManyStatements = link.TooManyStatements
link_fault (JoinFault.BeginsNotFirst m) = link.BeginsNotFirst m
link_fault (JoinFault.DefinedTwice m l) = link.DefinedTwice m l
link_fault (JoinFault.Unresolved m x) = link.Unresolved m x
link_fault (JoinFault.EntryNotFirst m) = link.EntryNotFirst m
link_fault JoinFault.NoMemory = link.NoMemory

-- What `link` answers. If memory ran out, nothing is claimed.
abbrev pub IsLinked : List Module → Result linked.Linked LinkFault → Type 0
IsLinked modules (Ok l) = (first_fault modules ≡ None) × (order : List ℕ) × IsOutput modules order (linked_output l)
    × ArePlaces (after order) (placed_shape (program modules)) l.places.items
IsLinked modules (Err (link.NoFit why sizes cert)) = (first_fault modules ≡ None) × IsUnfit (placed_shape (program modules)) why sizes.items cert.items
IsLinked modules (Err link.NoMemory) = Unit {0}
IsLinked modules (Err fault) = (first : JoinFault) × (first_fault modules ≡ Some first) × (link_fault first ≡ fault)

-- Unless memory runs out: if the modules have an error together, the answer is the first one; if they have none and some choice of short
-- and long jumps fits, the answer is a file.
pub record IsExactLink (modules : List Module) (result : Result linked.Linked LinkFault) : Type 0 where
  pub faults : (fault : JoinFault) → first_fault modules ≡ Some fault → (result ≡ Err (link_fault fault)) ⊎ (result ≡ Err link.NoMemory)
  pub fits : (c : Choice) → first_fault modules ≡ None → IsValid c (placed_shape (program modules)) → IsOk result ⊎ (result ≡ Err link.NoMemory)
