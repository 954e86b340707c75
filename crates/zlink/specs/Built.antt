-- What `build_with` answers for sources.
use Rattle.std.specs.Prelude.{◌≡◌, ◌⊎◌, ℕ, All, Bool, IsOk, List, Some, None, Result, Ok, Err, length, map}
use Rattle.std.specs.List.{enumerate_from, flat_map}
use Rattle.asm_module.specs.declared.fault.AsmFault.{AsmFault}
use Rattle.relax.specs.Choice.{Choice, IsValid, place}
use Rattle.relax.specs.Growth.{after}
use Rattle.zlink.specs.declared.program.fault.JoinFault.{JoinFault}
use Rattle.zlink.specs.Program.Faults.{first_fault}
use Rattle.zlink.specs.Program.Whole as object
use Rattle.zlink.specs.File.Objects as file
use Rattle.zlink.specs.declared.fault.BuildFault.{BuildFault}
use Rattle.zlink.specs.declared.fault.BuildFault.TheVariants as build
use Rattle.zlink.specs.declared.fault.LinkFault.TheVariants as link
use Rattle.zlink.specs.declared.building.Built as built
use Rattle.zlink.specs.declared.origins.Origin as origin
use Rattle.zlink.specs.declared.source.Source.{Source}
use Rattle.zlink.specs.Judged.{IsBestAfter, IsUnfit}
use Rattle.zmo_object.specs.Modules.{module_of}
use Rattle.zmo_object.specs.Rules.{IsModule}
use Rattle.zlink.specs.Linked.{IsOutput, Output, link_fault, symbol_of}
use Rattle.zlink.specs.Reads.{Reads, shape}
use Rattle.zlink.specs.Sources.{Assembly, AreAssembled, IsFirstFaulty, modules_of, program_of}

-- The origin of a statement: its address, the number of its source, and the number of its line there.
pub record Origin : Type 0 where
  pub place : ℕ
  pub source : ℕ
  pub line : ℕ

-- the source and the line of each statement of the program
abbrev pub lines_of_statements : List Assembly → List (ℕ × ℕ)
lines_of_statements assemblies = flat_map (λ a. map (λ line. (a.0, line)) a.1.assembled.each) (enumerate_from 0 assemblies)

-- the origin of each statement, given the lines of all statements in order and their addresses
abbrev pub origins_by : (ℕ → ℕ) → List (ℕ × ℕ) → List Origin
origins_by places lines = map (λ l. record { place = places l.0; source = l.1.0; line = l.1.1 }) (enumerate_from 0 lines)

abbrev pub origin_of : origin.Origin → Origin
origin_of o = record { place = o.place; source = o.source; line = o.line }

abbrev pub built_output : built.Built → Output
built_output b = record { file = b.com.items; sizes = b.sizes.items; cert = b.cert.items; symbols = map symbol_of b.symbols.items; grown = b.grown.items }

-- The file reads, statement by statement, as the program of the sources under the choice after the least-first order, and every target is
-- at its address. No choice that fits takes fewer bytes, and the sizes file and the certificate prove it.
pub record IsBuiltFile (assemblies : List Assembly) (order : List ℕ) (b : built.Built) : Type 0 where
  pub judged : IsBestAfter (shape (program_of assemblies)) order b.sizes.items b.cert.items
  pub reads : Reads b.com.items (program_of assemblies) (after order)
  -- linking the modules of the sources gives the same output
  pub linked : IsOutput (modules_of assemblies) order (built_output b)
  -- each statement has a source and a line, and its address is that of the choice
  pub each : length (lines_of_statements assemblies) ≡ length (program_of assemblies)
  pub statements : map origin_of b.statements.items ≡ origins_by (place (after order) (shape (program_of assemblies))) (lines_of_statements assemblies)
  pub last : b.last.items ≡ map (λ a. a.assembled.last) assemblies
  pub modules : map module_of b.modules.items ≡ modules_of assemblies
  pub lines : map (λ l. l.each.items) b.lines.items ≡ map (λ a. a.assembled.each) assemblies
  -- the modules keep the rules of an object file
  pub kept : All IsModule (modules_of assemblies)

-- The sources can be assembled, their modules have no error together, their modules and their program have the same sizes and targets, and
-- P holds of their assemblies.
abbrev pub Program : Bool → List Source → (List Assembly → Type 0) → Type 0
Program grow sources P = (assemblies : List Assembly) × AreAssembled grow sources assemblies × (first_fault (modules_of assemblies) ≡ None)
    × (file.placed_shape (object.program (modules_of assemblies)) ≡ shape (program_of assemblies)) × P assemblies

-- The answer is one of these: a file; the first error of the first source that has one; the reason why the modules of the sources are no
-- program; or the reason why no choice of its jumps fits. If memory ran out, nothing is claimed.
abbrev pub IsBuilt : Bool → List Source → Result built.Built BuildFault → Type 0
IsBuilt grow sources (Ok b) = Program grow sources (λ assemblies. (order : List ℕ) × IsBuiltFile assemblies order b)
IsBuilt grow sources (Err (build.Asm number fault)) = IsFirstFaulty grow sources number fault
IsBuilt grow sources (Err (build.Link (link.NoFit why sizes cert))) = Program grow sources (λ assemblies. IsUnfit (shape (program_of assemblies)) why sizes.items cert.items)
IsBuilt grow sources (Err (build.Link link.NoMemory)) = Unit {0}
IsBuilt grow sources (Err (build.Link fault)) = (assemblies : List Assembly) × AreAssembled grow sources assemblies
    × (first : JoinFault) × (first_fault (modules_of assemblies) ≡ Some first) × (link_fault first ≡ fault)

-- Unless memory runs out: if a source has an error, the answer is the first error of the first such source; if the modules have an error
-- together, the answer is the first of those; if some choice of short and long jumps fits, the answer is a file.
pub record IsExactBuild (grow : Bool) (sources : List Source) (result : Result built.Built BuildFault) : Type 0 where
  pub source : (number : ℕ) (fault : AsmFault) → IsFirstFaulty grow sources number fault →
      (result ≡ Err (build.Asm number fault)) ⊎ (result ≡ Err (build.Link link.NoMemory))
  pub modules : (assemblies : List Assembly) (fault : JoinFault) → AreAssembled grow sources assemblies → first_fault (modules_of assemblies) ≡ Some fault →
      (result ≡ Err (build.Link (link_fault fault))) ⊎ (result ≡ Err (build.Link link.NoMemory))
  pub fits : (assemblies : List Assembly) (c : Choice) → AreAssembled grow sources assemblies → first_fault (modules_of assemblies) ≡ None →
      IsValid c (shape (program_of assemblies)) → IsOk result ⊎ (result ≡ Err (build.Link link.NoMemory))
