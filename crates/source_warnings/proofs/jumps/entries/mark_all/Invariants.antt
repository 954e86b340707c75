use Rattle.std.proofs.Common.{◌≡◌, ◌<◌, ◌+◌, ◌==◌, ◌||◌, ℕ, false, length, map, take}
use Rattle.std.specs.List.{list_any, slice_index_or}
use Rattle.zmo_object.specs.Modules.{label_of}
use Rattle.source_warnings.proofs.jumps.entries.mark_all.Given as goal

-- The labels so far are marked.
abbrev pub invariant-loop-label : goal.invariant-loop-label
invariant-loop-label l = (length l.flags ≡ length l.fn.flags)
    × ((k : ℕ) → k < length l.fn.flags → slice_index_or l.flags k false ≡ (slice_index_or l.fn.flags k false || list_any (λ x. l.base + x.statement == k) (map label_of (take l.label-index l.labels))))
