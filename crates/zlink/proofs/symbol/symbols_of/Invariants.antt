use Rattle.std.proofs.Common.{◌≡◌, map, slice_index, take}
use Rattle.std.specs.List.{flat_map}
use Rattle.zmo_object.specs.Modules.{module_of}
use Rattle.zlink.specs.Program.Parts.{parts}
use Rattle.zlink.specs.Linked.{symbol_of, symbols_in}
use Rattle.zlink.proofs.symbol.symbols_of.Given as goal

abbrev pub invariant-loop-m : goal.invariant-loop-m
invariant-loop-m l = map symbol_of l.symbols.items ≡ flat_map (λ p. symbols_in (λ k. slice_index l.places k) p.base p.holds) (take l.m (parts (map module_of l.modules)))
