use Rattle.std.proofs.Common.{◌≡◌, ◌++◌, drop}
use Rattle.std.specs.List.{flat_map}
use Rattle.z80_cpu.specs.State.{up_by}
use Rattle.debugger.specs.Text.{stack_word_line}
use Rattle.debugger.proofs.text.put_words.Given as goal

abbrev pub invariant-loop-offset : goal.invariant-loop-offset
invariant-loop-offset l =
    l.text.items ++ flat_map (λ offset. stack_word_line l.labels l.memory (up_by offset l.sp)) (drop l.offset-index l.offsets)
    ≡ l.fn.text.items ++ flat_map (λ offset. stack_word_line l.labels l.memory (up_by offset l.sp)) l.offsets
