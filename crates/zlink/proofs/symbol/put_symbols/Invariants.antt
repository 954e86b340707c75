use Rattle.std.proofs.Common.{◌≡◌, ◌+◌, ◌++◌, map, slice_index, take}
use Rattle.zlink.specs.Linked.{symbol_of}
use Rattle.zlink.proofs.symbol.put_symbols.Given as goal

abbrev pub invariant-loop-label : goal.invariant-loop-label
invariant-loop-label l = map symbol_of l.symbols.items ≡ map symbol_of l.initial.symbols.items
    ++ map (λ x. record { name = x.name.items; module_name = l.own.name.items; place = slice_index l.places (l.links.base + x.statement) }) (take l.label-index l.own.labels.items)
