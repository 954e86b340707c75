use Rattle.std.proofs.Common.{◌≡◌, ◌++◌}
use Rattle.std.specs.List.{flat_map}
use Rattle.debugger.specs.Text.{output_text, printed_line}
use Rattle.debugger.proofs.text.put_output.Given as goal

abbrev pub invariant-loop-line : goal.invariant-loop-line
invariant-loop-line l = record {
  can_next : (goal.iterator-loop-line).can_next l.line-iterator;
  finite : (goal.iterator-loop-line).is_finite l.line-iterator;
  rest : l.text.items ++ flat_map printed_line l.line-iterator ≡ l.initial.text.items ++ output_text l.output;
}
