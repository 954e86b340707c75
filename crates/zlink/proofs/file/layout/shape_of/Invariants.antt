use Rattle.std.proofs.Common.{◌≡◌, map, take}
use Rattle.std.specs.List.{flat_map}
use Rattle.zmo_object.specs.Modules.{module_of}
use Rattle.zlink.specs.Program.Parts.{parts, all_publics}
use Rattle.zlink.specs.Program.Whole.{placed_statements}
use Rattle.zlink.specs.File.Objects.{placed_shape}
use Rattle.zlink.proofs.file.layout.shape_of.Given as goal

-- the sizes of the statements of the first parts
abbrev pub invariant-loop-m : goal.invariant-loop-m
invariant-loop-m l = let modules = map module_of l.modules in
    l.sizes.items ≡ placed_shape (flat_map (placed_statements (all_publics (parts modules))) (take l.m (parts modules)))
