-- If a source is refused, and not because memory ran out, it has that error.
use Rattle.std.proofs.Common.{Bool, List, ℕ, Err, refl}
use Rattle.std.specs.Prelude.{◌≢◌}
use Rattle.asm_macro.specs.declared.fault.MacroFault.{MacroFault}
use Rattle.asm_macro.specs.Expands.{IsExpanded}
use Rattle.asm_module.specs.Reads.Source.{IsSourceText}
use Rattle.asm_module.specs.declared.fault.AsmFault.{AsmFault}
use Rattle.asm_module.specs.declared.fault.Why.{Why}
use Rattle.asm_module.specs.Assembled.{Assembles, IsRefused}

module _ (name text : List ℕ) (grow : Bool) (fault : AsmFault) where
  pub caused : (w : Why) → w ≢ Why.NoMemory → IsRefused w name text grow fault → Assembles name text grow (Err fault)
  caused (Why.Macro why) other is = is
  caused (Why.Stmt why) other is = is
  caused Why.Duplicate other is = is
  caused Why.Undefined other is = is
  caused Why.PublicNotLabel other is = is
  caused Why.EquCircle other is = is
  caused Why.TooManyStatements other is = is
  caused Why.TooManyNames other is = is
  caused Why.NoMemory other is = absurd (other refl)

module _ (text : List ℕ) (number : ℕ) where
  pub stopped : (why : MacroFault) → why ≢ MacroFault.NoMemory → IsSourceText text (Err (number, why)) → IsExpanded text (Err (number, why))
  stopped MacroFault.Unclosed other is = is
  stopped MacroFault.Stray other is = is
  stopped MacroFault.TooDeep other is = is
  stopped MacroFault.TooManyLines other is = is
  stopped MacroFault.Redefined other is = is
  stopped MacroFault.ConditionNamesLabel other is = is
  stopped MacroFault.LineTooLong other is = is
  stopped (MacroFault.Scan why) other is = is
  stopped (MacroFault.Expr why) other is = is
  stopped MacroFault.NoMemory other is = absurd (other refl)
