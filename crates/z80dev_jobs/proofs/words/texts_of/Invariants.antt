use Rattle.std.proofs.Common.{◌≡◌, length, map, string_bytes, take}
use Rattle.z80dev_jobs.specs.Words.{AreTexts}
use Rattle.z80dev_jobs.proofs.words.texts_of.Given as goal

abbrev pub invariant-loop-word : goal.invariant-loop-word
invariant-loop-word l = (length l.texts.items ≡ l.word-index) × AreTexts (take l.word-index (map (λ word. word.items) l.words)) (map string_bytes l.texts.items)
