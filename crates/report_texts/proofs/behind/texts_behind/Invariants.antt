use Rattle.std.proofs.Common.{◌≡◌, ◌++◌, map, take}
use Rattle.report_texts.proofs.behind.texts_behind.Given as goal

abbrev pub invariant-loop-file : goal.invariant-loop-file
invariant-loop-file l = map (λ text. text.items) l.texts.items ≡ map (λ file. l.front ++ file.text.now) (take l.file-index l.files)
