-- The maps of programs that were built of sources, and of those that were linked.
use Rattle.std.specs.Prelude.{◌≡◌, ℕ, ◌+◌, Bool, List, [], ◌∷◌, ◌++◌, Some, Ok, length, map}
use Rattle.common.specs.declared.limits.TheConstants.{FIRST_PLACE}
use Rattle.zlink.specs.declared.building.Built.{Built}
use Rattle.zlink.specs.declared.source.Source.{Source}
use Rattle.zlink.specs.Sources.{Assembly, AreAssembled, modules_of, program_of}
use Rattle.zmo_object.specs.Modules.{module_of}
use Rattle.program_map.specs.Kinds.{kinds}
use Rattle.program_map.specs.Map.{program_map}
use Rattle.program_map.specs.Mapped.{MappedProgram}

-- the addresses of the statements of a program that was built, and that of its end
abbrev pub built_places : Built → List ℕ
built_places b = map (λ o. o.place) b.statements.items ++ (FIRST_PLACE + length b.com.items) ∷ []

-- The map is that of the modules of the sources, in which each statement is what the sources describe.
pub record IsMapOf (grow : Bool) (sources : List Source) (b : Built) (m : MappedProgram) : Type 0 where
  pub assemblies : List Assembly
  pub assembled : AreAssembled grow sources assemblies
  pub own : map module_of b.modules.items ≡ modules_of assemblies
  pub is : m ≡ program_map (Some (kinds (program_of assemblies))) (built_places b) (modules_of assemblies)
