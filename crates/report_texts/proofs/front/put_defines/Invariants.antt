use Rattle.std.proofs.Common.{◌≡◌, ◌++◌, take}
use Rattle.std.specs.List.{flat_map}
use Rattle.report_texts.specs.Front.{define_line, end_of_line}
use Rattle.report_texts.proofs.front.put_defines.Given as goal

abbrev pub invariant-loop-word : goal.invariant-loop-word
invariant-loop-word l = l.text.items ≡ l.initial.text.items ++ flat_map (λ word. define_line word.now ++ end_of_line) (take l.word-index l.defines)
