use Rattle.std.proofs.Common.{◌≡◌, map, take}
use Rattle.z80dev_run.proofs.preparing.bytes_of.Given as goal

abbrev pub invariant-loop-word : goal.invariant-loop-word
invariant-loop-word l = map (λ w. w.now) l.bytes.items ≡ map (λ w. w.now) (take l.word-index l.words)
