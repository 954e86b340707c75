-- What the code answers for an expression, given its reduced items.
use Rattle.std.specs.Prelude.{◌≡◌, true, Bool, false, None, Some, Result, Ok, Err, map}
use Rattle.std.specs.List.{list_any}
use Rattle.asm_parse.specs.declared.fault.ExprFault.{ExprFault}
use Rattle.asm_parse.specs.declared.item.Item.{Item}
use Rattle.asm_parse.specs.Expression.{Expression, postfix}
use Rattle.asm_parse.specs.Source.{Operand}
use Rattle.asm_expr.specs.declared.answer.Settled.{Settled}
use Rattle.asm_expr.specs.declared.part.Part.{Part}
use Rattle.asm_expr.specs.Names.{Table}
use Rattle.asm_expr.specs.Settling.{fault, known_item, reduced, replaced, unknown_of}

abbrev pub is_unknown : Item Part → Bool
is_unknown (Item.Leaf (Part.Unknown what)) = true
is_unknown _ = false

abbrev pub IsSettled : Table → Expression Operand → Result Settled ExprFault → Type 0
IsSettled t e (Ok (Settled.Known items)) = (fault t e ≡ None) × (map known_item items ≡ postfix (reduced t (replaced t e)))
IsSettled t e (Ok (Settled.Unknown what)) =
    (fault t e ≡ None) × (list_any is_unknown (postfix (reduced t (replaced t e))) ≡ true) × (what ≡ unknown_of (reduced t (replaced t e)))
IsSettled t e (Err ExprFault.NoMemory) = Unit {0}
IsSettled t e (Err why) = fault t e ≡ Some why
