use Rattle.std.proofs.Common.{◌≡◌, ◌++◌, [], map, take, drop}
use Rattle.asm_macro.specs.Views.{lines_seen}
use Rattle.source_warnings.specs.Warnings.{warning_of, warnings_after}
use Rattle.source_warnings.specs.Private.Known.{Knows}
use Rattle.source_warnings.proofs.found.warnings_in.Given as goal

-- What is there and what the other lines add is all.
abbrev pub invariant-loop-line : goal.invariant-loop-line
invariant-loop-line l = record {
  knows : Knows l.fn.text (lines_seen (take l.line-index l.expanded)) l.before;
  warnings : map warning_of l.found.items ++ warnings_after l.fn.text (lines_seen (take l.line-index l.expanded)) (lines_seen (drop l.line-index l.expanded)) ≡ warnings_after l.fn.text [] (lines_seen l.expanded);
}
