-- Collecting all lines that are still to come, as `expand` does.
use Rattle.std.specs.Prelude.{◌≡◌, ◌++◌, ℕ, List, Result, Ok, Err}
use Rattle.asm_macro.specs.declared.fault.MacroFault.{MacroFault}
use Rattle.asm_macro.specs.Ahead.{Ahead, Remains}
use Rattle.asm_macro.specs.Expands.{End, IsDone, Stopped}
use Rattle.asm_text.specs.Lines.{Numbered}

-- The lines before and all that were still to come, or the line at which expansion stops and the error. If memory ran out, nothing is
-- claimed.
abbrev pub Collected : Ahead → List Numbered → Result (Unit {0}) (ℕ × MacroFault) → List Numbered → Type 0
Collected ahead before (Ok done) after = (more : List Numbered) × (end : End) × IsDone end × Remains ahead more end × (after ≡ before ++ more)
Collected ahead before (Err (number, MacroFault.NoMemory)) after = Unit {0}
Collected ahead before (Err (number, why)) after = (more : List Numbered) × Remains ahead more (Stopped number why)
