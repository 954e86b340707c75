-- The errors of the parts of a source as errors of the source.
use Rattle.asm_names.specs.declared.equ_fault.EquFault.{EquFault}
use Rattle.asm_macro.specs.declared.fault.MacroFault.{MacroFault}
use Rattle.asm_names.specs.declared.fault.NameFault.{NameFault}
use Rattle.asm_module.specs.declared.line_fault.LineFault.{LineFault}
use Rattle.asm_spell.specs.declared.fault.StmtFault.{StmtFault}
use Rattle.asm_module.specs.declared.statements.fault.StateFault.{StateFault}
use Rattle.asm_module.specs.declared.fault.Why.{Why}

abbrev pub macro_why : MacroFault → Why
macro_why MacroFault.NoMemory = Why.NoMemory
macro_why why = Why.Macro why

abbrev pub line_why : LineFault → Why
line_why (LineFault.Scan why) = Why.Macro (MacroFault.Scan why)
line_why (LineFault.Stmt why) = Why.Stmt why

abbrev pub name_why : NameFault → Why
name_why NameFault.Duplicate = Why.Duplicate
name_why NameFault.TooManyStatements = Why.TooManyStatements
name_why NameFault.TooManyNames = Why.TooManyNames
name_why NameFault.NoMemory = Why.NoMemory

abbrev pub equ_why : EquFault → Why
equ_why EquFault.Undefined = Why.Undefined
equ_why EquFault.EquCircle = Why.EquCircle
equ_why (EquFault.Expr why) = Why.Stmt (StmtFault.Expr why)

abbrev pub state_why : StateFault → Why
state_why StateFault.Undefined = Why.Undefined
state_why (StateFault.Stmt why) = Why.Stmt why
state_why StateFault.PublicNotLabel = Why.PublicNotLabel
state_why StateFault.NoMemory = Why.NoMemory
