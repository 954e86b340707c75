use Rattle.std.proofs.Common.{◌≡◌, ◌++◌, drop, map}
use Rattle.std.specs.List.{enumerate_from, flat_map}
use Rattle.source_errors.specs.Counted.{takens}
use Rattle.source_errors.specs.Findings.{finding_of}
use Rattle.source_errors.specs.Judged.{late, late_errors}
use Rattle.source_errors.specs.Private.State.{counted_of}
use Rattle.source_errors.proofs.judging.judge_lines.Given as goal

-- The errors so far, with those of the lines that are left, are all; and names stand for what the outline says.
abbrev pub invariant-loop-at : goal.invariant-loop-at
invariant-loop-at l =
    (l.names ≡ record l.fn.outline.settled.names { here = l.names.here })
    × (map finding_of l.findings.items ++ flat_map (late (takens (counted_of l.origins l.lines)) l.fn.outline) (enumerate_from l.at (drop l.at (counted_of l.origins l.lines)))
    ≡ map finding_of l.fn.findings.items ++ late_errors (counted_of l.origins l.lines) l.fn.outline)
