-- The program of sources, or the first source that has an error.
use Rattle.std.specs.Prelude.{◌≡◌, ◌≢◌, ℕ, Bool, List, Some, Ok, Err, map, slice_get, take}
use Rattle.std.specs.List.{AllZip, flat_map, zip}
use Rattle.asm_module.specs.declared.fault.AsmFault.{AsmFault}
use Rattle.asm_module.specs.declared.fault.Why.{Why}
use Rattle.asm_module.specs.Assembled.{Assembled, Assembles}
use Rattle.asm_module.specs.Program.Described.{IsProgramOfSource}
use Rattle.asm_module.specs.Program.Statement.{Statement}
use Rattle.zmo_object.specs.Modules.{Module}
use Rattle.zlink.specs.Program.Parts.{ModulePart, Publics, parts, all_publics}
use Rattle.zlink.specs.Program.Whole.{stands}
use Rattle.zlink.specs.declared.source.Source.{Source}
use Rattle.zlink.specs.Renumbered.{statement_in}

-- What one source is assembled to: its module with the line of each statement, and the program that its lines describe.
pub record Assembly : Type 0 where
  pub assembled : Assembled
  pub program : List Statement

pub record IsAssembly (grow : Bool) (source : Source) (a : Assembly) : Type 0 where
  pub assembled : Assembles source.name.now source.text.now grow (Ok a.assembled)
  pub stated : IsProgramOfSource source.text.now grow a.program

abbrev pub modules_of : List Assembly → List Module
modules_of assemblies = map (λ a. a.assembled.holds) assemblies

-- the program of one source, with the numbers of the whole program
abbrev pub in_whole : Publics → ModulePart × Assembly → List Statement
in_whole publics (part, a) = map (statement_in (stands publics part)) a.program

-- the statements of all sources, in order
abbrev pub program_of : List Assembly → List Statement
program_of assemblies = flat_map (in_whole (all_publics (parts (modules_of assemblies)))) (zip (parts (modules_of assemblies)) assemblies)

-- Each source is assembled: there is one assembly for each, in order.
abbrev pub AreAssembled : Bool → List Source → List Assembly → Type 0
AreAssembled grow sources assemblies = AllZip (IsAssembly grow) sources assemblies

-- This source has this first error, which is not that memory ran out, and the sources before it have no error.
pub record IsFirstFaulty (grow : Bool) (sources : List Source) (number : ℕ) (fault : AsmFault) : Type 0 where
  pub before : List Assembly
  pub good : AreAssembled grow (take number sources) before
  pub source : Source
  pub there : slice_get sources number ≡ Some source
  pub faulty : Assembles source.name.now source.text.now grow (Err fault)
  pub caused : fault.why ≢ Why.NoMemory
