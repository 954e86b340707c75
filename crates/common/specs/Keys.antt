-- Keys of tables of names.
use Rattle.std.specs.Prelude.{ℕ, List}
use Rattle.std.specs.List.{fold}
use Rattle.std.specs.Hash as fed
use Rattle.std.specs.Hash.DefaultHasher as sip
use Rattle.std.specs.Hash.FoldHasher as folding
use Rattle.std.specs.declared.hash.FoldHasher.{FoldHasher}
use Rattle.std.specs.declared.hash.DefaultHasher.{DefaultHasher}

-- the hasher before any bytes are mixed in
abbrev pub nothing_hashed : DefaultHasher
nothing_hashed = sip.initial

-- the hasher after these bytes are mixed in
abbrev pub hashed : DefaultHasher → List ℕ → DefaultHasher
hashed = sip.write

-- the hasher with which a table with this key begins
abbrev pub keyed : DefaultHasher → FoldHasher
keyed h = fold folding.write folding.initial (fed.u64 (sip.finish h))
