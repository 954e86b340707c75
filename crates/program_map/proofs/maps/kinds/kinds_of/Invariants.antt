use Rattle.std.proofs.Common.{◌≡◌, ℕ, Bool, List, length, map, take}
use Rattle.std.specs.List.{flat_map}
use Rattle.zmo_object.specs.Modules.{module_of}
use Rattle.zlink.specs.Program.Laws.{statement_count}
use Rattle.zlink.specs.Sources.{Assembly, AreAssembled, modules_of, program_of}
use Rattle.program_map.specs.Kinds.{kinds}
use Rattle.program_map.proofs.maps.kinds.kinds_of.Given as goal

-- The kinds so far are those of the programs of the sources so far.
abbrev pub invariant-loop-number : goal.invariant-loop-number
invariant-loop-number l = (grow : Bool) (assemblies : List Assembly) → AreAssembled grow l.sources assemblies → map module_of l.modules ≡ modules_of assemblies
    → length (program_of assemblies) ≡ statement_count (modules_of assemblies) → l.kinds.items ≡ flat_map (λ a. kinds a.program) (take l.number assemblies)
