use Rattle.std.proofs.Common.{◌≡◌, ◌++◌, drop, filter, map}
use Rattle.std.specs.Prelude.{not}
use Rattle.zlink.specs.Linked.{symbol_of}
use Rattle.program_map.specs.Named.{named_of}
use Rattle.program_map.specs.SymbolFile.{is_made_by_local, label_named}
use Rattle.program_map.proofs.symbol_files.kept_names.Given as goal

-- The names so far and those of the labels that are left are all names.
abbrev pub invariant-loop-symbol : goal.invariant-loop-symbol
invariant-loop-symbol l = map named_of l.names.items ++ filter (λ n. not (is_made_by_local n.name)) (map label_named (map symbol_of (drop l.symbol-index l.symbols)))
    ≡ filter (λ n. not (is_made_by_local n.name)) (map label_named (map symbol_of l.symbols))
