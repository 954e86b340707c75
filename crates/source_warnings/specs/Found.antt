-- All warnings about a source.
use Rattle.std.specs.Prelude.{◌≢◌, ℕ, false, List, [], Ok, Err}
use Rattle.asm_macro.specs.declared.fault.MacroFault.{MacroFault}
use Rattle.asm_macro.specs.Expands.{IsExpanded}
use Rattle.asm_text.specs.Lines.{Numbered}
use Rattle.asm_module.specs.Assembled.{Assembled, Assembles}
use Rattle.asm_module.specs.declared.fault.AsmFault.{AsmFault}
use Rattle.asm_module.specs.declared.fault.Why.{Why}
use Rattle.source_warnings.specs.Warnings.{SourceWarning, warnings_after}

-- A source without an error has the warnings about the lines of its expansion. A source with an error has none.
pub data AreSourceWarnings (text : List ℕ) : List SourceWarning → Type 0 where
  clean : {lines : List Numbered} {whole : Assembled} → IsExpanded text (Ok lines) → Assembles [] text false (Ok whole) → AreSourceWarnings text (warnings_after text [] lines)
  refused : {fault : AsmFault} → fault.why ≢ Why.NoMemory → Assembles [] text false (Err fault) → AreSourceWarnings text []
  stopped : {why : MacroFault} (number : ℕ) → why ≢ MacroFault.NoMemory → IsExpanded text (Err (number, why)) → AreSourceWarnings text []
