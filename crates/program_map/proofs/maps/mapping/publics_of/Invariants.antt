use Rattle.std.proofs.Common.{◌≡◌, ◌++◌, drop, map}
use Rattle.zmo_object.specs.Modules.{module_of}
use Rattle.zlink.specs.Program.Parts.{label_at}
use Rattle.program_map.specs.Map.{placed_label}
use Rattle.program_map.specs.Named.{named_of}
use Rattle.program_map.proofs.maps.mapping.publics_of.Given as goal

-- The names so far and those of the labels that are left are all names.
abbrev pub invariant-loop-number : goal.invariant-loop-number
invariant-loop-number l = map named_of l.names.items ++ map (λ p. placed_label l.places (label_at (module_of l.«module») p)) (drop l.number-index l.«module».publics.items)
    ≡ map (λ p. placed_label l.places (label_at (module_of l.«module») p)) l.«module».publics.items
