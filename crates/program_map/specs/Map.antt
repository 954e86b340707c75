-- The map of a program of modules.
use Rattle.std.specs.Prelude.{ℕ, List, Option, drop, is_some, length, map, slice_index}
use Rattle.std.specs.List.{sum_by}
use Rattle.std.specs.Option.{option_map}
use Rattle.zmo_object.specs.Modules.{Label, Module}
use Rattle.zlink.specs.Program.Laws.{statement_count}
use Rattle.zlink.specs.Program.Parts.{ModulePart, label_at, parts}
use Rattle.program_map.specs.declared.maps.figures.Figures.{Figures}
use Rattle.program_map.specs.declared.maps.kind.Kind.{Kind}
use Rattle.program_map.specs.Figures.{all_counted, figures}
use Rattle.program_map.specs.Mapped.{MappedModule, MappedProgram}
use Rattle.program_map.specs.Named.{NamedPlace, by_address}

-- the name of a label and its address
abbrev pub placed_label : List ℕ → Label → NamedPlace
placed_label places l = record { place = slice_index places l.statement; name = l.name }

-- A module, given what its statements are, and the addresses of its statements and of what follows.
abbrev pub mapped_module : Option (List Kind) → List ℕ → Module → MappedModule
mapped_module kinds places m = record {
  name = m.name;
  first = slice_index places 0;
  end = slice_index places (length m.statements);
  figures = figures (all_counted kinds places m.statements);
  publics = by_address (map (λ l. placed_label places (label_at m l)) m.publics);
}

-- A module of a program, given what all statements are, their addresses and that of their end.
abbrev pub mapped_part : Option (List Kind) → List ℕ → ModulePart → MappedModule
mapped_part kinds places p = mapped_module (option_map (drop p.base) kinds) (drop p.base places) p.holds

abbrev pub mapped_modules : Option (List Kind) → List ℕ → List Module → List MappedModule
mapped_modules kinds places modules = map (mapped_part kinds places) (parts modules)

-- the bytes and the jumps of all modules
abbrev pub summed : List MappedModule → Figures
summed modules = record {
  code = sum_by (λ m. m.figures.code) modules;
  «data» = sum_by (λ m. m.figures.«data») modules;
  space = sum_by (λ m. m.figures.space) modules;
  jumps = sum_by (λ m. m.figures.jumps) modules;
  short = sum_by (λ m. m.figures.short) modules;
  long = sum_by (λ m. m.figures.long) modules;
}

-- The map of a program. Data and code are counted apart if it is known what the statements are.
abbrev pub program_map : Option (List Kind) → List ℕ → List Module → MappedProgram
program_map kinds places modules = record {
  tells_data = is_some kinds;
  modules = mapped_modules kinds places modules;
  total = summed (mapped_modules kinds places modules);
  end = slice_index places (statement_count modules);
}
