use Rattle.std.proofs.Common.{◌≡◌, ◌++◌, ℕ, List, length, map}
use Rattle.std.specs.Vec.Iter.{into_iter_items, into_iter_len}
use Rattle.asm_macro.specs.Texts.{source_lines}
use Rattle.source_errors.specs.Findings.{finding_of}
use Rattle.source_errors.specs.Found.{without_made}
use Rattle.source_errors.proofs.scanning.append_without_made.Given as goal

-- The errors so far, with those that are left, are all.
abbrev pub invariant-loop-finding : goal.invariant-loop-finding
invariant-loop-finding l =
    (into_iter_len l.finding-iterator ≡ length (into_iter_items l.finding-iterator))
    × ((text : List ℕ) → l.lines ≡ source_lines text → map finding_of l.findings.items ++ without_made text (map finding_of (into_iter_items l.finding-iterator))
    ≡ map finding_of l.fn.findings.items ++ without_made text (map finding_of l.fn.others.items))
