-- Words for the laws about distances.
use Rattle.std.specs.Prelude.{ℕ, ◌+◌, Bool, [], ◌∷◌, if◌then◌else◌}
use Rattle.std.specs.Option.{option_map_or}
use Rattle.source_warnings.specs.declared.jumps.part.Site.{Site}
use Rattle.source_warnings.specs.Jumps.Distances.{Sizes}

-- how many bytes statements take, if a choice says which relaxable jumps are long
abbrev pub bytes_under : (Site → Bool) → Sizes → ℕ
bytes_under long [] = 0
bytes_under long (s ∷ rest) = option_map_or (λ size. size) s.1 (if long s.0 then 3 else 2) + bytes_under long rest
