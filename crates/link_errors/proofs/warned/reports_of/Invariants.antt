use Rattle.std.proofs.Common.{◌≡◌, length}
use Rattle.link_errors.proofs.warned.reports_of.Given as goal

-- A report was appended for each warning so far.
abbrev pub invariant-loop-number : goal.invariant-loop-number
invariant-loop-number l = length l.reports.items ≡ l.number
