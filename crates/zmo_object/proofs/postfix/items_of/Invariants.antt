use Rattle.std.proofs.Common.{◌≡◌, ◌-◌, ◌++◌}
use Rattle.std.specs.Option.{option_map}
use Rattle.asm_parse.specs.declared.values.expr.TheConstants.{MOST_ITEMS}
use Rattle.zmo_object.specs.Fields.Postfix.{items_of, items_within}
use Rattle.zmo_object.proofs.postfix.items_of.Given as goal

abbrev pub invariant-loop : goal.invariant-loop
invariant-loop l = option_map (λ more. l.items.items ++ more) (items_within (MOST_ITEMS - l.counter) l.rest) ≡ items_of l.bytes
