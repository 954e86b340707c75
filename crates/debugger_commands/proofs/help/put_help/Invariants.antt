use Rattle.std.proofs.Common.{◌≡◌, ◌++◌, filter}
use Rattle.std.specs.Prelude.{codes}
use Rattle.std.specs.List.{flat_map}
use Rattle.debugger_commands.specs.Help.{help_of, shows_form}
use Rattle.debugger_commands.proofs.help.put_help.Given as goal

abbrev pub invariant-loop-line : goal.invariant-loop-line
invariant-loop-line l = record {
  can_next : (goal.iterator-loop-line).can_next l.line-iterator;
  finite : (goal.iterator-loop-line).is_finite l.line-iterator;
  rest : l.text.items ++ flat_map (λ line. line ++ codes "\n") (filter (shows_form l.form.items) l.line-iterator) ≡ l.initial.text.items ++ help_of l.fn.verb;
}
