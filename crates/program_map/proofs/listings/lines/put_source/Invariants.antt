use Rattle.std.proofs.Common.{◌≡◌, ◌+◌, ◌-◌, ◌++◌, ◌≤◌, take}
use Rattle.program_map.specs.Private.Runs.{HasLines, IsBehind, lines_with, source_with}
use Rattle.program_map.proofs.listings.lines.put_source.Given as goal

-- The lines so far and those that are left are all lines, and the cells that are left are all cells of the lines to come.
abbrev pub invariant-loop-line : goal.invariant-loop-line
invariant-loop-line l = record {
  can_next : (goal.iterator-loop-line).can_next l.line-iterator;
  finite : (goal.iterator-loop-line).is_finite l.line-iterator;
  within : l.number ≤ l.last;
  rest : HasLines (IsBehind l.source l.number) l.rest l.fn.cells;
  all : l.out.items ++ lines_with l.source l.fn.cells (l.number + 1) (take (l.last - l.number) l.line-iterator) ≡ l.fn.out.items ++ source_with l.source l.fn.cells l.last l.fn.text;
}
