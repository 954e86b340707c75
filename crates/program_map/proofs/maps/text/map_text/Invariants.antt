use Rattle.std.proofs.Common.{◌≡◌, ◌++◌, drop, map}
use Rattle.std.specs.List.{flat_map}
use Rattle.program_map.specs.Mapped.{mapped_module_of}
use Rattle.program_map.specs.Text.{heading, module_rows}
use Rattle.program_map.proofs.maps.text.map_text.Given as goal

-- The rows so far and those of the modules that are left are all rows of modules.
abbrev pub invariant-loop-module : goal.invariant-loop-module
invariant-loop-module l = l.out.items ++ flat_map (module_rows l.map.tells_data) (map mapped_module_of (drop l.module-index l.map.modules.items))
    ≡ heading l.map.tells_data ++ flat_map (module_rows l.map.tells_data) (map mapped_module_of l.map.modules.items)
