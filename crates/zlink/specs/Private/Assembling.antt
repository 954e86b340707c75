-- Sources as modules and lines of the code, or why they could not be assembled.
use Rattle.std.specs.Prelude.{◌≡◌, ℕ, Bool, List, All, Result, Ok, Err, length, map}
use Rattle.std.specs.List.{enumerate_from, flat_map}
use Rattle.asm_module.specs.declared.assembling.Lines as listing
use Rattle.asm_module.specs.declared.fault.AsmFault.{AsmFault}
use Rattle.asm_module.specs.declared.fault.Why.{Why}
use Rattle.asm_module.specs.Below.{AreAt}
use Rattle.zmo_object.specs.declared.module.Module as whole
use Rattle.zmo_object.specs.Modules.{module_of}
use Rattle.zmo_object.specs.Rules.{IsModule}
use Rattle.zlink.specs.declared.assembling.Assemblies as held
use Rattle.zlink.specs.declared.fault.BuildFault.{BuildFault}
use Rattle.zlink.specs.declared.fault.BuildFault.TheVariants as build
use Rattle.zlink.specs.declared.fault.LinkFault.TheVariants as link
use Rattle.zlink.specs.declared.source.Source.{Source}
use Rattle.zlink.specs.Sources.{AreAssembled, Assembly, IsFirstFaulty, modules_of}

-- the source and the line of each statement, from the code's lists
abbrev pub lines_in : List listing.Lines → List (ℕ × ℕ)
lines_in lines = flat_map (λ l. map (λ line. (l.0, line)) l.1.each.items) (enumerate_from 0 lines)

-- what holds of the module of a source
pub record IsKept (a : Assembly) : Type 0 where
  pub rules : IsModule a.assembled.holds
  pub placed : AreAt a.assembled.holds.statements a.program
  pub lines : length a.assembled.each ≡ length a.assembled.holds.statements

-- The modules and lines of the code are those of the assemblies.
pub record AreHeld (modules : List whole.Module) (lines : List listing.Lines) (assemblies : List Assembly) : Type 0 where
  pub modules_are : map module_of modules ≡ modules_of assemblies
  pub each : map (λ l. l.each.items) lines ≡ map (λ a. a.assembled.each) assemblies
  pub last : map (λ l. l.last) lines ≡ map (λ a. a.assembled.last) assemblies
  pub kept : All IsKept assemblies

-- why sources were not assembled: the first error of the first source that has one; if memory ran out, nothing is claimed
abbrev pub IsStop : Bool → List Source → BuildFault → Type 0
IsStop grow sources (build.Asm number fault) = IsFirstFaulty grow sources number fault
IsStop grow sources (build.Link link.NoMemory) = Unit {0}
IsStop grow sources (build.Link fault) = ⊥

abbrev pub AreAssembledBy : Bool → List Source → Result held.Assemblies BuildFault → Type 0
AreAssembledBy grow sources (Ok h) = (assemblies : List Assembly) × AreAssembled grow sources assemblies × AreHeld h.modules.items h.lines.items assemblies
AreAssembledBy grow sources (Err fault) = IsStop grow sources fault

abbrev pub fault_by : Why → ℕ → AsmFault → BuildFault
fault_by Why.NoMemory number fault = build.Link link.NoMemory
fault_by why number fault = build.Asm number fault

abbrev pub source_fault : ℕ → AsmFault → BuildFault
source_fault number fault = fault_by fault.why number fault
