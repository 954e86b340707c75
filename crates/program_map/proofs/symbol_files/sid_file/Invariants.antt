use Rattle.std.proofs.Common.{◌≡◌, ◌++◌, drop, map}
use Rattle.std.specs.List.{flat_map}
use Rattle.program_map.specs.Named.{named_of}
use Rattle.program_map.specs.SymbolFile.{sid_line}
use Rattle.program_map.proofs.symbol_files.sid_file.Given as goal

-- The lines so far and those of the names that are left are all lines.
abbrev pub invariant-loop-name : goal.invariant-loop-name
invariant-loop-name l = l.out.items ++ flat_map sid_line (map named_of (drop l.name-index l.names)) ≡ flat_map sid_line (map named_of l.names)
