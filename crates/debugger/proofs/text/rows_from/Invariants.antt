use Rattle.std.proofs.Common.{◌≡◌, map}
use Rattle.bstr.specs.Text.{lines_of, without_terminator}
use Rattle.debugger.specs.Text.{rows_from}
use Rattle.debugger.proofs.Listed.{rows_after}
use Rattle.debugger.proofs.text.rows_from.Given as goal

abbrev pub invariant-loop-line : goal.invariant-loop-line
invariant-loop-line l = record {
  can_next : (goal.iterator-loop-line).can_next l.line-iterator;
  finite : (goal.iterator-loop-line).is_finite l.line-iterator;
  rest : rows_after l.digits (map (λ row. row.now) l.rows.items) l.line-iterator ≡ rows_from l.digits (map without_terminator (lines_of l.fn.listing));
}
