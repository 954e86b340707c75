-- What an expansion says about its source.
use Rattle.std.proofs.Common.{◌≤◌, ℕ, List, Ok, Err, length}
use Rattle.common.specs.declared.limits.TheConstants.{LONGEST_TEXT}
use Rattle.asm_macro.specs.declared.fault.MacroFault.{MacroFault}
use Rattle.asm_macro.specs.Expands.{IsDone, IsExpanded, IsExpansion, End, long, short}
use Rattle.asm_text.specs.Lines.{Numbered}
use Rattle.asm_module.specs.Private.Reading.{IsReading}
use Rattle.asm_module.specs.Reads.Source.{IsSourceText}

short_by : (text : List ℕ) (lines : List Numbered) (end : End) → IsDone end → IsExpansion text lines end → length text ≤ LONGEST_TEXT
short_by text lines end done (long above) = absurd done
short_by text lines end done (short below expands) = below

-- A source that has an expansion is not longer than a source may be.
pub short_text : (text : List ℕ) (lines : List Numbered) → IsExpanded text (Ok lines) → length text ≤ LONGEST_TEXT
short_text text lines (end, done, is) = short_by text lines end done is

-- What stops the reading of a source.
pub refused : (text : List ℕ) (fault : ℕ × MacroFault) → IsReading text (Err fault) → IsSourceText text (Err fault)
refused text (number, MacroFault.Unclosed) is = is
refused text (number, MacroFault.Stray) is = is
refused text (number, MacroFault.TooDeep) is = is
refused text (number, MacroFault.TooManyLines) is = is
refused text (number, MacroFault.Redefined) is = is
refused text (number, MacroFault.ConditionNamesLabel) is = is
refused text (number, MacroFault.LineTooLong) is = is
refused text (number, MacroFault.Scan fault) is = is
refused text (number, MacroFault.Expr fault) is = is
refused text (number, MacroFault.NoMemory) is = tt
