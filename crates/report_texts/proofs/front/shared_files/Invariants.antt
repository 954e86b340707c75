use Rattle.std.proofs.Common.{◌≡◌, take}
use Rattle.report_texts.proofs.front.shared_files.Given as goal

abbrev pub invariant-loop-file : goal.invariant-loop-file
invariant-loop-file l = l.shared.items ≡ take l.file-index l.files
