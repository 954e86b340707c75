use Rattle.std.proofs.Common.{◌≡◌, ◌≤◌, ◌+◌, ◌++◌, ℕ, List, drop, map, slice_index}
use Rattle.zmo_object.specs.Modules.{Module, module_of}
use Rattle.zlink.specs.Program.Laws.{statement_count}
use Rattle.zlink.specs.Program.Parts.{parts_from}
use Rattle.program_map.specs.Map.{mapped_modules, mapped_part, summed}
use Rattle.program_map.specs.Mapped.{mapped_module_of}
use Rattle.program_map.specs.Private.Adding.{seen_kinds}
use Rattle.program_map.proofs.maps.mapping.program_map.Given as goal

-- The modules so far and those that are left are all modules. The sums are those of the modules so far, whose bytes end at this address.
abbrev pub invariant-loop-module : goal.invariant-loop-module
invariant-loop-module l =
    record {
      all : map mapped_module_of l.mapped.items
          ++ map (mapped_part (seen_kinds l.kinds) l.places) (parts_from l.module-index l.base (map module_of (drop l.module-index l.modules)))
          ≡ mapped_modules (seen_kinds l.kinds) l.places (map module_of l.modules);
      total : l.total ≡ summed (map mapped_module_of l.mapped.items);
      base : l.base + statement_count (map module_of (drop l.module-index l.modules)) ≡ statement_count (map module_of l.modules);
      bytes : slice_index l.places 0 + (l.total.code + l.total.«data» + l.total.space) ≡ slice_index l.places l.base;
      jumps : (l.total.jumps ≤ l.base) × (l.total.short ≤ l.base) × (l.total.long ≤ l.base);
    }
