-- Names that are defined nowhere, and names that are not labels, as the code looks for them.
use Rattle.std.specs.Prelude.{ℕ, Bool, false, not, List, Option, Some, None, is_none}
use Rattle.std.specs.List.{list_any}
use Rattle.asm_parse.specs.declared.item.Item.{Item}
use Rattle.asm_parse.specs.Source.{Operand, Name}
use Rattle.asm_spell.specs.Line.{ExpressionItems, Value}
use Rattle.asm_names.specs.Names.{Names, kind_of_name}
use Rattle.asm_names.specs.Circles.{names_in}
use Rattle.asm_module.specs.Module.Faults.{is_label, value_names}

abbrev pub is_missing : Names → List ℕ → Bool
is_missing names name = is_none (kind_of_name names name)

abbrev pub item_misses : Names → Item Operand → Bool
item_misses names (Item.Leaf (Name name)) = is_missing names name
item_misses names _ = false

abbrev pub tree_misses : Names → ExpressionItems → Bool
tree_misses names e = list_any (is_missing names) (names_in e)

abbrev pub value_misses : Names → Value → Bool
value_misses names v = list_any (is_missing names) (value_names v)

abbrev pub fill_misses : Names → Option ExpressionItems → Bool
fill_misses names None = false
fill_misses names (Some e) = tree_misses names e

abbrev pub is_no_label : Names → List ℕ → Bool
is_no_label names name = not (is_label (kind_of_name names name))
