use Rattle.std.proofs.Common.{◌≡◌, ◌++◌, drop, map}
use Rattle.asm_parse.specs.Source.{source_item}
use Rattle.asm_names.specs.Circles.{names_in}
use Rattle.source_errors.proofs.using.put_items.Given as goal

-- What is there and what the other elements add is all.
abbrev pub invariant-loop-item : goal.invariant-loop-item
invariant-loop-item l = map (λ name. name.now) l.all.items ++ names_in (map source_item (drop l.item-index l.items)) ≡ map (λ name. name.now) l.fn.all.items ++ names_in (map source_item l.items)
