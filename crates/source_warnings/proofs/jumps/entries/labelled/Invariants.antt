use Rattle.std.proofs.Common.{◌≡◌, ◌<◌, ℕ, false, length, map, take}
use Rattle.std.specs.List.{slice_index_or}
use Rattle.source_warnings.specs.Private.Flat.{placed_of}
use Rattle.source_warnings.specs.Jumps.Warnings.{is_labelled}
use Rattle.source_warnings.proofs.jumps.entries.labelled.Given as goal

-- The labels of the modules so far are marked.
abbrev pub invariant-loop-own : goal.invariant-loop-own
invariant-loop-own l = (length l.flags.items ≡ l.count)
    × ((k : ℕ) → k < l.count → slice_index_or l.flags.items k false ≡ is_labelled (map placed_of (take l.own-index l.placed)) k)
