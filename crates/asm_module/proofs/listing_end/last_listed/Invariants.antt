use Rattle.std.proofs.Common.{◌≡◌, drop, length}
use Rattle.asm_macro.specs.Texts.{source_lines}
use Rattle.asm_names.specs.Lines.{lines_of}
use Rattle.asm_module.specs.Reads.Source.{last_listed}
use Rattle.asm_module.proofs.listing_end.last_listed.Given as goal

abbrev pub invariant-loop-line : goal.invariant-loop-line
invariant-loop-line l = last_listed (length (source_lines l.text)) (lines_of l.lines) ≡ last_listed (length (source_lines l.text)) (lines_of (drop l.line-index l.lines))
