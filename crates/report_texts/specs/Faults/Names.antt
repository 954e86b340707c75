-- How the errors of a source are named: by the innermost variant.
use Rattle.std.specs.Prelude.{ℕ, List, codes}
use Rattle.asm_line.specs.declared.fault.ScanFault.{ScanFault}
use Rattle.asm_line.specs.declared.fault.ScanFault.TheVariants as scan
use Rattle.asm_parse.specs.declared.fault.ExprFault.{ExprFault}
use Rattle.asm_parse.specs.declared.fault.ExprFault.TheVariants as expression
use Rattle.asm_macro.specs.declared.fault.MacroFault.{MacroFault}
use Rattle.asm_macro.specs.declared.fault.MacroFault.TheVariants as expansion
use Rattle.asm_spell.specs.declared.fault.StmtFault.{StmtFault}
use Rattle.asm_spell.specs.declared.fault.StmtFault.TheVariants as statement
use Rattle.zlink.specs.Types.{Why}

abbrev pub scan_name : ScanFault → List ℕ
scan_name scan.BadByte = codes "BadByte"
scan_name scan.OpenString = codes "OpenString"
scan_name scan.LineTooLong = codes "LineTooLong"
scan_name scan.BadNumber = codes "BadNumber"
scan_name scan.NoMemory = codes "NoMemory"

abbrev pub expression_name : ExprFault → List ℕ
expression_name expression.Syntax = codes "Syntax"
expression_name expression.DivideByZero = codes "DivideByZero"
expression_name expression.LabelDivisor = codes "LabelDivisor"
expression_name expression.TooDeep = codes "TooDeep"
expression_name expression.TooLarge = codes "TooLarge"
expression_name expression.NoMemory = codes "NoMemory"

abbrev pub macro_name : MacroFault → List ℕ
macro_name expansion.Unclosed = codes "Unclosed"
macro_name expansion.Stray = codes "Stray"
macro_name expansion.TooDeep = codes "TooDeep"
macro_name expansion.TooManyLines = codes "TooManyLines"
macro_name expansion.Redefined = codes "Redefined"
macro_name expansion.ConditionNamesLabel = codes "ConditionNamesLabel"
macro_name expansion.LineTooLong = codes "LineTooLong"
macro_name (expansion.Scan fault) = scan_name fault
macro_name (expansion.Expr fault) = expression_name fault
macro_name expansion.NoMemory = codes "NoMemory"

abbrev pub statement_name : StmtFault → List ℕ
statement_name statement.UnknownWord = codes "UnknownWord"
statement_name statement.BadOperands = codes "BadOperands"
statement_name statement.ByteRange = codes "ByteRange"
statement_name statement.NeedsLowOrHigh = codes "NeedsLowOrHigh"
statement_name statement.ShortNeedsLabel = codes "ShortNeedsLabel"
statement_name statement.SizeNamesLabel = codes "SizeNamesLabel"
statement_name statement.BadOrg = codes "BadOrg"
statement_name statement.NeedsNumber = codes "NeedsNumber"
statement_name statement.ReservedName = codes "ReservedName"
statement_name (statement.Expr fault) = expression_name fault
statement_name statement.NoMemory = codes "NoMemory"

abbrev pub why_name : Why → List ℕ
why_name (Why.Macro fault) = macro_name fault
why_name (Why.Stmt fault) = statement_name fault
why_name Why.Duplicate = codes "Duplicate"
why_name Why.Undefined = codes "Undefined"
why_name Why.PublicNotLabel = codes "PublicNotLabel"
why_name Why.EquCircle = codes "EquCircle"
why_name Why.TooManyStatements = codes "TooManyStatements"
why_name Why.TooManyNames = codes "TooManyNames"
why_name Why.NoMemory = codes "NoMemory"
