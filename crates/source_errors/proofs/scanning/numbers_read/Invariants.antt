use Rattle.std.proofs.Common.{◌≡◌, ◌<◌, ◌==◌, ℕ, false, length, take}
use Rattle.std.specs.List.{list_any, slice_index_or}
use Rattle.asm_macro.specs.Views.{lines_seen}
use Rattle.source_errors.proofs.scanning.numbers_read.Given as goal

-- The numbers of the lines so far are marked.
abbrev pub invariant-loop-line : goal.invariant-loop-line
invariant-loop-line l = (length l.flags.items ≡ l.count)
    × ((k : ℕ) → k < l.count → slice_index_or l.flags.items k false ≡ list_any (λ m. m.number == k) (lines_seen (take l.line-index l.expanded)))
