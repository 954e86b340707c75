use Rattle.std.proofs.Common.{◌≡◌, map, take}
use Rattle.std.specs.List.{AllZip}
use Rattle.host.specs.Reading.{IsRead}
use Rattle.host.proofs.reading.read_all.Given as goal

abbrev pub invariant-loop-path : goal.invariant-loop-path
invariant-loop-path g l =
    (g.F.Files.folder l.files ≡ g.F.Files.folder l.fn.files)
    × AllZip (IsRead (g.F.Files.folder l.fn.files)) (take l.path-index (map (λ path. path.now) l.paths)) (map (λ text. text.items) l.texts.items)
