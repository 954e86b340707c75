use Rattle.std.proofs.Common.{◌≡◌, ◌+◌, ◌++◌, drop, map}
use Rattle.std.specs.List.{filter_map}
use Rattle.asm_macro.specs.Texts.{numbered}
use Rattle.asm_macro.specs.Views.{lines_seen}
use Rattle.source_errors.specs.Findings.{finding_of}
use Rattle.source_errors.specs.Found.{scan_error}
use Rattle.source_errors.proofs.scanning.put_scan_errors.Given as goal

-- The errors so far, with those of the lines that are left, are all.
abbrev pub invariant-loop-at : goal.invariant-loop-at
invariant-loop-at l =
    map finding_of l.findings.items ++ filter_map (scan_error l.other (lines_seen l.expanded)) (numbered (l.at + 1) (drop l.at l.lines))
    ≡ map finding_of l.fn.findings.items ++ filter_map (scan_error l.other (lines_seen l.expanded)) (numbered 1 l.lines)
