-- Errors that have a cause in the source.
use Rattle.std.specs.Prelude.{⊤, Result, Ok, Err}
use Rattle.asm_line.specs.declared.fault.ScanFault.{ScanFault}
use Rattle.asm_parse.specs.declared.fault.ExprFault.{ExprFault}
use Rattle.asm_spell.specs.declared.fault.StmtFault.{StmtFault}
use Rattle.asm_macro.specs.declared.fault.MacroFault.{MacroFault}
use Rattle.asm_module.specs.declared.fault.AsmFault.{AsmFault}
use Rattle.asm_module.specs.declared.fault.Why.{Why}

-- The error of an expansion is not that memory ran out, and has not that inside.
abbrev pub IsOfSource : MacroFault → Type 0
IsOfSource MacroFault.NoMemory = ⊥
IsOfSource (MacroFault.Scan ScanFault.NoMemory) = ⊥
IsOfSource (MacroFault.Expr ExprFault.NoMemory) = ⊥
IsOfSource why = ⊤

-- The same of the error of a statement.
abbrev pub IsOfStatement : StmtFault → Type 0
IsOfStatement StmtFault.NoMemory = ⊥
IsOfStatement (StmtFault.Expr ExprFault.NoMemory) = ⊥
IsOfStatement why = ⊤

-- The same of the error of a source.
abbrev pub IsCauseOf : Why → Type 0
IsCauseOf Why.NoMemory = ⊥
IsCauseOf (Why.Macro why) = IsOfSource why
IsCauseOf (Why.Stmt why) = IsOfStatement why
IsCauseOf why = ⊤

-- The answer for a source is a module, or an error that is not that memory ran out and has not that inside.
abbrev pub LacksNoMemory : {A : Type 0} → Result A AsmFault → Type 0
LacksNoMemory (Ok whole) = ⊤
LacksNoMemory (Err fault) = IsCauseOf fault.why
