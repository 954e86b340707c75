-- The lines that the code answers, as definitions see them.
use Rattle.std.specs.Prelude.{ℕ, List, Result, Ok, Err, map}
use Rattle.asm_macro.specs.declared.fault.MacroFault.{MacroFault}
use Rattle.asm_macro.specs.declared.whole.Expanded.{Expanded}
use Rattle.asm_macro.specs.declared.whole.ExpandedLine.{ExpandedLine}
use Rattle.asm_text.specs.Lines.{Numbered}

abbrev pub lines_seen : List ExpandedLine → List Numbered
lines_seen lines = map (λ l. record { number = l.number; text = l.text.items }) lines

abbrev pub expanded_seen : Result Expanded (ℕ × MacroFault) → Result (List Numbered) (ℕ × MacroFault)
expanded_seen (Ok expanded) = Ok (lines_seen expanded.lines.items)
expanded_seen (Err fault) = Err fault
