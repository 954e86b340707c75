-- Operands of JR and DJNZ that begin with `$`: `$`, `$+n` and `$-n`.
-- In words: docs/LANGUAGE.md, section 'Jumps'.
use Rattle.std.specs.Prelude.{◌≡◌, ◌≢◌, Some, None, Result, Ok, Err, if◌then◌else◌}
use Rattle.std.specs.List.{list_all}
use Rattle.asm_parse.specs.declared.fault.ExprFault.{ExprFault}
use Rattle.asm_parse.specs.declared.operator.Binary.{Binary}
use Rattle.asm_parse.specs.Expression.{Expression, Leaf, Infix, postfix}
use Rattle.asm_parse.specs.Source.{Operand, Here}
use Rattle.asm_parse.specs.declared.values.worth.Worth.{Worth}
use Rattle.asm_expr.specs.declared.here.Offset.{Offset}
use Rattle.asm_parse.specs.Values.Arithmetic.{binary}
use Rattle.asm_expr.specs.Names.{Table}
use Rattle.asm_expr.specs.Settling.{replaced, worth, fault, is_constant_item}

-- How far the target is after `$`, given the operator and what is known of n.
abbrev pub offset_after_here : Binary → Worth → Offset
offset_after_here op (Worth.Number n) = Offset.Number (binary op 0 n)
offset_after_here op _ = Offset.Unknown

-- How far the target of `$+n` or `$-n` is after `$`, if n is constant.
abbrev pub constant_behind : Table → Binary → Expression Operand → Offset
constant_behind t op n = if list_all (is_constant_item t) (postfix n) then offset_after_here op (worth t (replaced t n)) else Offset.NotConstant

-- What an operand says, given its tree.
abbrev pub offset : Table → Expression Operand → Offset
offset t (Leaf Here) = Offset.Number 0
offset t (Infix Binary.Add (Leaf Here) n) = constant_behind t Binary.Add n
offset t (Infix Binary.Subtract (Leaf Here) n) = constant_behind t Binary.Subtract n
offset t _ = Offset.Other

-- What the code answers for an operand. An operand of another form is not checked further; any other has no error, or the answer is
-- its first.
abbrev pub IsOffset : Table → Expression Operand → Result Offset ExprFault → Type 0
IsOffset t e (Ok Offset.Other) = offset t e ≡ Offset.Other
IsOffset t e (Ok said) = (fault t e ≡ None) × (offset t e ≡ said)
IsOffset t e (Err ExprFault.NoMemory) = Unit {0}
IsOffset t e (Err why) = (fault t e ≡ Some why) × (offset t e ≢ Offset.Other)
