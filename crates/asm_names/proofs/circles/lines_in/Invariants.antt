use Rattle.std.proofs.Common.{◌≡◌, ◌++◌, drop, map}
use Rattle.std.specs.List.{filter_map}
use Rattle.asm_parse.specs.Source.{source_item}
use Rattle.asm_names.specs.Circles.{line_named}
use Rattle.asm_names.proofs.circles.lines_in.Given as goal

-- What was found so far, and what the remaining items have, is all.
abbrev pub invariant-loop-item : goal.invariant-loop-item
invariant-loop-item l =
    l.uses.items ++ filter_map (line_named l.names) (map source_item (drop l.item-index l.item-items)) ≡ filter_map (line_named l.names) (map source_item l.item-items)
