-- The value of the expression of an IF, REPT or EQU line during expansion, or its error. Only names that are constants have a value there.
-- In words: docs/LANGUAGE.md, section 'REPT and IF'.
use Rattle.std.specs.Prelude.{ℕ, [], ◌∷◌, List, Result, Ok, Err, if◌then◌else◌}
use Rattle.std.specs.List.{list_all}
use Rattle.asm_line.specs.Tokens.{Lexeme}
use Rattle.asm_parse.specs.Source.{Operand}
use Rattle.asm_parse.specs.Parsed.{parsed}
use Rattle.asm_parse.specs.declared.fault.ExprFault.{ExprFault}
use Rattle.asm_parse.specs.declared.item.Item.{Item}
use Rattle.asm_expr.specs.Below.{Atom, source_tree}
use Rattle.asm_expr.specs.declared.answer.Settled.{Settled}
use Rattle.asm_expr.specs.Names.{Table}
use Rattle.asm_expr.specs.Origins.{is_number_item}
use Rattle.asm_expr.specs.Settling.{settled}
use Rattle.asm_macro.specs.declared.fault.MacroFault.{MacroFault}
use Rattle.asm_macro.specs.Faults.{fault_of_expr}

-- The number that an expression has, or its error. (An expression of numbers only has either, so the second case does not occur.)
abbrev pub settled_number : Result Settled ExprFault → Result ℕ MacroFault
settled_number (Ok (Settled.Known (Item.Leaf (Atom.Number n) ∷ []))) = Ok n
settled_number (Ok _) = Err MacroFault.ConditionNamesLabel
settled_number (Err fault) = Err (fault_of_expr fault)

-- the value of items: a name that is not a constant, or `$`, is reported before an error of the value
abbrev pub worth_of_items : Table → Result (List (Item Operand)) ExprFault → Result ℕ MacroFault
worth_of_items t (Ok items) = if list_all (is_number_item t) items then settled_number (settled t (source_tree items)) else Err MacroFault.ConditionNamesLabel
worth_of_items t (Err fault) = Err (fault_of_expr fault)

-- The value of tokens: the number of their expression, or the first of these errors: the tokens are no expression; a name is not a
-- constant; the expression has no value.
abbrev pub value_of_tokens : Table → List Lexeme → Result ℕ MacroFault
value_of_tokens t tokens = worth_of_items t (parsed tokens)
