use Rattle.std.proofs.Common.{◌≡◌, map, take}
use Rattle.state_text.specs.Labelled.{parts_of, symbol_parts}
use Rattle.state_text.proofs.labels.owned.Given as goal

abbrev pub invariant-loop-symbol : goal.invariant-loop-symbol
invariant-loop-symbol l = map parts_of l.named.items ≡ map symbol_parts (take l.symbol-index l.symbols)
