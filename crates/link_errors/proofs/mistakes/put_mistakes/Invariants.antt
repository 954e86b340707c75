use Rattle.std.proofs.Common.{◌≡◌, ◌+◌, length, take, List, ℕ}
use Rattle.std.specs.List.{AllZip, sum_by}
use Rattle.link_errors.specs.Counts.{HasWarnings}
use Rattle.link_errors.proofs.mistakes.put_mistakes.Given as goal

abbrev pub invariant-loop-number : goal.invariant-loop-number
invariant-loop-number l = (counts : List ℕ) × AllZip (λ s n. HasWarnings l.sources.before s.text.now n) (take l.number l.behind) counts
    × (length l.reports.items ≡ length l.initial.reports.items + sum_by (λ n. n) counts)
