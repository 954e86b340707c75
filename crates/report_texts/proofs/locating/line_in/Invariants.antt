use Rattle.std.proofs.Common.{◌≡◌, drop}
use Rattle.report_texts.specs.Front.{line_in}
use Rattle.report_texts.proofs.locating.line_in.Given as goal

abbrev pub invariant-loop-file : goal.invariant-loop-file
invariant-loop-file l = line_in l.files l.path l.fn.line ≡ line_in (drop l.file-index l.files) l.path l.line
