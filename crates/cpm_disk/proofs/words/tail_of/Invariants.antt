use Rattle.std.proofs.Common.{◌≡◌, map, take}
use Rattle.cpm_disk.specs.Control.Words.{tail_of}
use Rattle.cpm_disk.proofs.words.tail_of.Given as goal

abbrev pub invariant-loop-word : goal.invariant-loop-word
invariant-loop-word l = l.tail.items ≡ tail_of (map (λ w. w.now) (take l.word-index l.words))
