use Rattle.std.proofs.Common.{◌≡◌, drop}
use Rattle.std.specs.Prelude.{find}
use Rattle.debugger_commands.specs.Typed.{is_short_for, verb_name}
use Rattle.debugger_commands.proofs.verb.first_begun.Given as goal

abbrev pub invariant-loop-verb : goal.invariant-loop-verb
invariant-loop-verb l = find (λ it. is_short_for l.word (verb_name it)) l.verbs ≡ find (λ it. is_short_for l.word (verb_name it)) (drop l.verb-index l.verbs)
