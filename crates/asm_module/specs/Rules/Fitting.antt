-- What the line and the code's types guarantee about a statement.
use Rattle.std.specs.Prelude.{◌≤◌, Some}
use Rattle.common.specs.declared.limits.TheConstants.{MOST_BYTES}
use Rattle.asm_module.specs.Program.Spelled.{IsSpelled}
use Rattle.asm_spell.specs.Few.{IsFew}
use Rattle.asm_spell.specs.Line as line
use Rattle.asm_spell.specs.Line.{Line}
use Rattle.zmo_object.specs.Modules as object
use Rattle.zmo_object.specs.Modules.{ModuleStatement}

-- the size of space fits a word
abbrev pub FitsWord : ModuleStatement → Type 0
FitsWord (object.Space size fill) = size ≤ MOST_BYTES
FitsWord _ = Unit {0}

-- The line has a statement that tokens parse as, and if it is DB or DW, it makes 1 to 65,535 bytes.
abbrev pub IsReadLine : Line → Type 0
IsReadLine (line.Statement label (Some body)) = IsSpelled body × IsFew body
IsReadLine _ = Unit {0}
