use Rattle.std.proofs.Common.{◌≡◌, drop}
use Rattle.std.specs.Prelude.{find}
use Rattle.std.specs.Str.{str_eq_ignore_ascii_case}
use Rattle.debugger_commands.specs.Typed.{verb_name}
use Rattle.debugger_commands.proofs.verb.first_named.Given as goal

abbrev pub invariant-loop-verb : goal.invariant-loop-verb
invariant-loop-verb l = find (λ it. str_eq_ignore_ascii_case (verb_name it) l.word) l.verbs ≡ find (λ it. str_eq_ignore_ascii_case (verb_name it) l.word) (drop l.verb-index l.verbs)
