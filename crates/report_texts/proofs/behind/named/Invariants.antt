use Rattle.std.proofs.Common.{◌≡◌, length, map, take}
use Rattle.report_texts.specs.Private.Steps.{AreNamed}
use Rattle.report_texts.proofs.behind.named.Given as goal

abbrev pub invariant-loop-file : goal.invariant-loop-file
invariant-loop-file l = AreNamed (map (λ file. file.path.now) (take l.file-index l.files)) (map (λ text. text.items) (take l.file-index l.texts)) l.sources.items × (length l.sources.items ≡ l.file-index)
