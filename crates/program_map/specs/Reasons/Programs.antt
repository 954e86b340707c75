-- The long jumps of a program of modules.
use Rattle.std.specs.Prelude.{◌≡◌, ℕ, ◌+◌, List, [], ◌∷◌, ◌++◌, Some, None, Result, Ok, Err, length, map}
use Rattle.std.specs.List.{range_with_len}
use Rattle.zmo_object.specs.Modules.{Module}
use Rattle.zlink.specs.declared.program.fault.JoinFault.{JoinFault}
use Rattle.zlink.specs.File.Objects.{placed_shape}
use Rattle.zlink.specs.Program.Faults.{first_fault}
use Rattle.zlink.specs.Program.Whole.{program}
use Rattle.relax.specs.Growth.{IsLeastFirst}
use Rattle.source_warnings.specs.declared.jumps.part.Site.{Site}
use Rattle.program_map.specs.declared.reasons.program.LongJumps.{LongJumps}
use Rattle.program_map.specs.Reasons.Reasons.{AreLongJumps}

-- the statements of a module, by its number and their count
abbrev pub sites_of : ℕ → ℕ → List Site
sites_of number count = map (λ k. record { «module» = number; statement = k }) (range_with_len 0 count)

-- the statements of modules, one after the other; the first module has this number
abbrev pub sites_from : ℕ → List Module → List Site
sites_from number [] = []
sites_from number (m ∷ ms) = sites_of number (length m.statements) ++ sites_from (number + 1) ms

-- What is answered for the modules of a program: where its statements are, and its long jumps, by the least-first order of its jumps, which is
-- the only one. Or the first error of the modules together; if memory ran out, nothing is claimed.
abbrev pub AnswersLongJumps : List Module → Result LongJumps JoinFault → Type 0
AnswersLongJumps modules (Ok found) =
    (first_fault modules ≡ None) × (found.sites.items ≡ sites_from 0 modules)
    × (order : List ℕ) × IsLeastFirst (placed_shape (program modules)) order × AreLongJumps (placed_shape (program modules)) order found.jumps.items
AnswersLongJumps modules (Err JoinFault.NoMemory) = Unit {0}
AnswersLongJumps modules (Err fault) = first_fault modules ≡ Some fault
