use Rattle.std.proofs.Common.{take}
use Rattle.std.specs.List.{AllZip}
use Rattle.report_texts.specs.Behind.{IsSource}
use Rattle.report_texts.proofs.behind.sources_of.Given as goal

abbrev pub invariant-loop-file : goal.invariant-loop-file
invariant-loop-file l = AllZip IsSource (take l.file-index l.files) l.sources.items
