use Rattle.std.proofs.Common.{◌≡◌, length, map, take}
use Rattle.z80dev.proofs.programs.making.sources_of.Given as goal

abbrev pub invariant-loop-path : goal.invariant-loop-path
invariant-loop-path l =
    (length l.sources.items ≡ l.path-index)
    × (map (λ file. file.path.now) l.sources.items ≡ take l.path-index (map (λ path. path.now) l.paths))
    × (map (λ file. file.text.now) l.sources.items ≡ take l.path-index (map (λ text. text.items) l.texts))
