-- How the code judges one EQU line.
use Rattle.std.specs.Prelude.{Bool, true, not, ◌∷◌, [], Option, is_some}
use Rattle.std.specs.List.{list_all}
use Rattle.asm_parse.specs.declared.item.Item.{Item}
use Rattle.asm_parse.specs.Source.{Operand, Name}
use Rattle.asm_expr.specs.declared.meaning.Meaning.{Meaning}
use Rattle.asm_expr.specs.Equating.{equated}
use Rattle.asm_expr.specs.Names.{Table}
use Rattle.asm_expr.specs.Below.{source_tree}
use Rattle.asm_spell.specs.Line.{ExpressionItems}
use Rattle.asm_names.specs.Faults.{first, if_so}
use Rattle.asm_names.specs.Names.{Names, kind_of_name}
use Rattle.asm_names.specs.declared.equ_fault.EquFault.{EquFault}
use Rattle.asm_names.specs.Meanings.{meaning_by, expression_fault_of}

-- whether an item of an expression is a defined name, or no name at all
abbrev pub is_named : Names → Item Operand → Bool
is_named names (Item.Leaf (Name name)) = is_some (kind_of_name names name)
is_named names _ = true

-- the first error of the line, given whether it leads back to itself
abbrev pub fault_by : Names → Bool → Table → ExpressionItems → Option EquFault
fault_by names on_circle t e = first (if_so EquFault.Undefined (not (list_all (is_named names) e)) ∷ if_so EquFault.EquCircle on_circle ∷ expression_fault_of (equated t (source_tree e)) ∷ [])

-- what the line defines its name to stand for, and its first error
abbrev pub judged : Names → Bool → Table → ExpressionItems → Meaning × Option EquFault
judged names on_circle t e = (meaning_by (fault_by names on_circle t e) (equated t (source_tree e)), fault_by names on_circle t e)
