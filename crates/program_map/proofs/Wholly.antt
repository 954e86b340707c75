-- The map of a whole program.
use Rattle.std.proofs.Common.{◌≡◌, ◌+◌, ℕ, List, Option, arith}
use Rattle.std.specs.Prelude.{All}
use Rattle.common.specs.declared.limits.TheConstants.{FIRST_PLACE}
use Rattle.relax.specs.Choice.{Choice, total}
use Rattle.zmo_object.specs.Modules.{Module}
use Rattle.zlink.specs.File.Objects.{placed_shape}
use Rattle.zlink.specs.File.Places.{ArePlaces}
use Rattle.zlink.specs.Program.Whole.{program}
use Rattle.program_map.specs.declared.maps.kind.Kind.{Kind}
use Rattle.program_map.specs.Map.{mapped_modules, program_map}
use Rattle.program_map.specs.Sums.{AddsUp, IsWholeMap, figure_bytes}

-- what a law says of every map whose addresses are those of a choice
abbrev pub Always : (Option (List Kind) → List ℕ → List Module → Choice → Type 0) → Type 0
Always P = (kinds : Option (List Kind)) (places : List ℕ) (modules : List Module) (c : Choice) → ArePlaces c (placed_shape (program modules)) places → P kinds places modules c

pub whole_map : (kinds : Option (List Kind)) (places : List ℕ) (modules : List Module) (c : Choice) (bytes : ℕ) → ArePlaces c (placed_shape (program modules)) places → total c (placed_shape (program modules)) ≡ bytes
    → Always (λ kinds places modules c. All AddsUp (mapped_modules kinds places modules))
    → Always (λ kinds places modules c. FIRST_PLACE + figure_bytes (program_map kinds places modules).total ≡ (program_map kinds places modules).end)
    → Always (λ kinds places modules c. (program_map kinds places modules).end ≡ FIRST_PLACE + total c (placed_shape (program modules)))
    → Always (λ kinds places modules c. (program_map kinds places modules).total.jumps ≡ (program_map kinds places modules).total.short + (program_map kinds places modules).total.long)
    → IsWholeMap bytes (program_map kinds places modules)
whole_map kinds places modules c bytes are long each sum ends jumps =
    let s = sum kinds places modules c are in
    let e = ends kinds places modules c are in
    record { each = each kinds places modules c are; sum = omega arith; end = omega arith; jumps = jumps kinds places modules c are }
