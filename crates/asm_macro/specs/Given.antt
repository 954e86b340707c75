-- The line that `next_line` answers.
use Rattle.std.specs.Prelude.{◌≡◌, ℕ, true, false, Option, Some, None, Result, Ok, Err}
use Rattle.asm_macro.specs.declared.expander.Line.{Line}
use Rattle.asm_macro.specs.declared.fault.MacroFault.{MacroFault}
use Rattle.asm_macro.specs.Ahead.{IsNext, Standing, seen}

-- As `IsNext`, with the line itself.
abbrev pub IsNextLine : Standing → Result (Option Line) (ℕ × MacroFault) → Standing → Type 0
IsNextLine before (Ok (Some l)) after = IsNext before (Ok true) after × (seen l ≡ after.given)
IsNextLine before (Ok None) after = IsNext before (Ok false) after
IsNextLine before (Err fault) after = IsNext before (Err fault) after
