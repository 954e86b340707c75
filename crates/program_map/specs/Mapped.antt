-- What a map holds.
use Rattle.std.specs.Prelude.{ℕ, Bool, List, map}
use Rattle.program_map.specs.declared.maps.figures.Figures.{Figures}
use Rattle.program_map.specs.declared.maps.map.ModuleMap as module_map
use Rattle.program_map.specs.declared.maps.map.ProgramMap as program_map
use Rattle.program_map.specs.Named.{NamedPlace, named_of}

-- A module in a map: its name, its first address, the address after its last byte, its bytes and jumps, and its public names by address.
pub record MappedModule : Type 0 where
  pub name : List ℕ
  pub first : ℕ
  pub end : ℕ
  pub figures : Figures
  pub publics : List NamedPlace

-- A program in a map: whether data and code are counted apart, its modules, their bytes and jumps together, and the address after its last byte.
pub record MappedProgram : Type 0 where
  pub tells_data : Bool
  pub modules : List MappedModule
  pub total : Figures
  pub end : ℕ

abbrev pub mapped_module_of : module_map.ModuleMap → MappedModule
mapped_module_of m = record { name = m.name.items; first = m.first; end = m.end; figures = m.figures; publics = map named_of m.publics.items }

abbrev pub mapped_program_of : program_map.ProgramMap → MappedProgram
mapped_program_of p = record { tells_data = p.tells_data; modules = map mapped_module_of p.modules.items; total = p.total; end = p.end }
