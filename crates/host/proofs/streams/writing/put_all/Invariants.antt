use Rattle.std.proofs.Common.{◌≡◌, take}
use Rattle.std.specs.List.{flat_map}
use Rattle.std.specs.Io.KnownBytes.{Appends}
use Rattle.host.proofs.streams.writing.put_all.Given as goal

abbrev pub invariant-loop-piece : goal.invariant-loop-piece
invariant-loop-piece g l =
    Appends (g.S.Sink.stream l.fn.sink).bytes (g.S.Sink.stream l.sink).bytes (flat_map (λ piece. piece.now) (take l.piece-index l.pieces))
    × ((g.S.Sink.stream l.sink).failures ≡ (g.S.Sink.stream l.fn.sink).failures)
