use Rattle.std.proofs.Common.{◌≡◌, ◌++◌, drop, map}
use Rattle.std.specs.List.{flat_map}
use Rattle.zlink.specs.Linked.{symbol_of}
use Rattle.program_map.specs.Listings.Symbols.{symbol_line, symbols}
use Rattle.program_map.proofs.listings.labels.symbols.Given as goal

-- The lines so far and those of the labels that are left are all lines.
abbrev pub invariant-loop-symbol : goal.invariant-loop-symbol
invariant-loop-symbol l = l.out.items ++ flat_map symbol_line (map (λ s. symbol_of s.now) (drop l.symbol-index l.symbol-items)) ≡ symbols l.fn.built
