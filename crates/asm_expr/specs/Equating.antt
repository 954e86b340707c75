-- What a name stands for that EQU defines by an expression.
-- In words: docs/LANGUAGE.md, section 'EQU'.
use Rattle.std.specs.Prelude.{Result, Ok, if◌then◌else◌}
use Rattle.std.specs.List.{list_all}
use Rattle.common.specs.Results.{◌>>=◌}
use Rattle.asm_parse.specs.declared.fault.ExprFault.{ExprFault}
use Rattle.asm_parse.specs.Expression.{Expression, postfix}
use Rattle.asm_parse.specs.Source.{Operand}
use Rattle.asm_expr.specs.declared.answer.Settled.{Settled}
use Rattle.asm_expr.specs.declared.meaning.Meaning.{Meaning}
use Rattle.asm_expr.specs.declared.unknown.Unknown.{Unknown}
use Rattle.asm_parse.specs.Values.Items.{value}
use Rattle.asm_expr.specs.Names.{Table}
use Rattle.asm_parse.specs.Values.Postfix.{tree}
use Rattle.asm_expr.specs.Settling.{is_constant_item, settled, expression_size}

-- What a constant expression stands for: its value, which is the same at any addresses. Without a value, it may be anything, or an
-- unknown constant.
abbrev pub constant_of : Settled → Meaning
constant_of (Settled.Known items) = Meaning.Constant (value (λ r. 0) (tree items))
constant_of (Settled.Unknown Unknown.Anything) = Meaning.Faulty
constant_of (Settled.Unknown what) = Meaning.UnknownConstant

abbrev pub meaning_of : Table → Expression Operand → Settled → Meaning
meaning_of t e s = if list_all (is_constant_item t) (postfix e) then constant_of s else Meaning.Equ (record { settled = s; size = expression_size t e })

-- What a name stands for that EQU defines by this expression, or the first error of the expression.
abbrev pub equated : Table → Expression Operand → Result Meaning ExprFault
equated t e = settled t e >>= λ s. Ok (meaning_of t e s)
