use Rattle.std.proofs.Common.{◌≡◌, ◌++◌, map, drop}
use Rattle.asm_macro.specs.Views.{lines_seen}
use Rattle.source_warnings.specs.Calls.{calls_after}
use Rattle.source_warnings.specs.Warnings.{warning_of}
use Rattle.source_warnings.proofs.calls.put_lines.Given as goal

-- What is there and what the other lines add is all.
abbrev pub invariant-loop-line : goal.invariant-loop-line
invariant-loop-line l = map warning_of l.found.items ++ calls_after l.known.lines l.known.macros l.known.later l.last (lines_seen (drop l.line-index l.expanded)) ≡ calls_after l.known.lines l.known.macros l.known.later 0 (lines_seen l.expanded)
