use Rattle.std.proofs.Common.{◌≡◌, length}
use Rattle.std.specs.Vec.Iter.{into_iter_items, into_iter_len}
use Rattle.report_texts.proofs.Leaving_out.{Leaves}
use Rattle.report_texts.proofs.repeats.without_repeats.Given as goal

-- The reports so far were looked at, and the others are still to be.
abbrev pub invariant-loop-report : goal.invariant-loop-report
invariant-loop-report l = (into_iter_len l.report-iterator ≡ length (into_iter_items l.report-iterator))
    × Leaves l.before l.fn.reports.items (into_iter_items l.report-iterator) l.seen l.left.items
