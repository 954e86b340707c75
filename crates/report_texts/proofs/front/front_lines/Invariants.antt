use Rattle.std.proofs.Common.{◌+◌, length, take}
use Rattle.std.specs.List.{sum_by}
use Rattle.report_texts.specs.Front.{CountsLines}
use Rattle.report_texts.specs.Lines.{line_count}
use Rattle.report_texts.proofs.front.front_lines.Given as goal

abbrev pub invariant-loop-file : goal.invariant-loop-file
invariant-loop-file l = CountsLines l.lines (length l.front.defines.now + sum_by line_count (take l.file-index l.front.files.now))
