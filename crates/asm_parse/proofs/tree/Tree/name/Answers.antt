use Rattle.std.proofs.Common.{◌∷◌, [], sym, ap}
use Rattle.asm_parse.specs.declared.item.Item.{Item}
use Rattle.asm_parse.specs.Expression.{Leaf}
use Rattle.asm_parse.specs.Source.{Name}
use Rattle.asm_parse.proofs.tree.Tree.name.Goals as goal

pub known-requires : goal.known-requires
known-requires c = record { expression = Leaf (Name c.args.name.now); spelled = ap (λ o. Item.Leaf o ∷ []) (sym c.in_ok-term.ensures) }
