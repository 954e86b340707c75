use Rattle.std.proofs.Common.{◌≡◌, ◌+◌, ◌≤◌, length}
use Rattle.disassembler.specs.Labels.{first_bad_from, first_bad_line}
use Rattle.disassembler.proofs.labels.first_bad_line.Given as goal

-- The first bad line is among those that are left.
abbrev pub invariant-loop-line : goal.invariant-loop-line
invariant-loop-line l = record {
  can_next : (goal.iterator-loop-line).can_next l.line-iterator;
  finite : (goal.iterator-loop-line).is_finite l.line-iterator;
  room : l.number + length l.line-iterator ≤ length l.text;
  left : first_bad_line l.text ≡ first_bad_from (l.number + 1) l.line-iterator;
}
