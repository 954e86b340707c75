use Rattle.std.proofs.Common.{◌≡◌, ◌+◌, length, take}
use Rattle.std.specs.List.{sum_by}
use Rattle.source_warnings.specs.Warnings.{warning_of}
use Rattle.link_errors.specs.Counts.{is_behind, one_if}
use Rattle.link_errors.proofs.mistakes.put_each.Given as goal

abbrev pub invariant-loop-warning : goal.invariant-loop-warning
invariant-loop-warning l = length l.reports.items ≡ length l.initial.reports.items + sum_by (λ w. one_if (is_behind l.sources.before (warning_of w))) (take l.warning-index l.found)
