-- Errors of an expansion, and running out of memory.
use Rattle.std.specs.Prelude.{ℕ}
use Rattle.asm_macro.specs.declared.moves.Stop.{Stop}
use Rattle.asm_macro.specs.declared.fault.MacroFault.{MacroFault}

-- an error at a line; running out of memory belongs to no line
abbrev pub stopped : ℕ → MacroFault → Stop
stopped number MacroFault.NoMemory = Stop.NoMemory
stopped number why = Stop.At number why
