use Rattle.std.proofs.Common.{◌≡◌, drop}
use Rattle.asm_names.specs.Lines.{lines_of}
use Rattle.report_texts.specs.Shared.{first_unshared}
use Rattle.report_texts.proofs.sharing.first_unshared.Given as goal

abbrev pub invariant-loop-line : goal.invariant-loop-line
invariant-loop-line l = first_unshared l.words (lines_of l.lines) ≡ first_unshared l.words (lines_of (drop l.line-index l.lines))
