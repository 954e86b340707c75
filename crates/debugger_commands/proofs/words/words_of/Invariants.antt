use Rattle.std.proofs.Common.{◌≡◌, ◌++◌, ◌+◌, ℕ, List, Option, Some, None, Bor, length, map, option_map}
use Rattle.std.specs.Prelude.{filter}
use Rattle.debugger_commands.specs.Private.Parts.{parts_left}
use Rattle.debugger_commands.specs.Typed.{is_typed_word, line_words}
use Rattle.debugger_commands.proofs.words.words_of.Given as goal

abbrev pub invariant-loop-rest : goal.invariant-loop-rest
invariant-loop-rest l = map (λ w. w.now) l.found.items ++ filter is_typed_word (parts_left (option_map (λ text. text.now) l.rest)) ≡ line_words l.fn.line

abbrev left : Option (Bor (List ℕ)) → ℕ
left None = 0
left (Some text) = length text.now + 1

abbrev pub decreases-loop-rest : goal.decreases-loop-rest
decreases-loop-rest l = left l.rest
