use Rattle.std.proofs.Common.{◌≡◌, ◌-◌, ◌^◌}
use Rattle.std.specs.Io.KnownBytes.{Keeps}
use Rattle.host.proofs.streams.writing.put_some.Given as goal

abbrev pub invariant-loop-count : goal.invariant-loop-count
invariant-loop-count g l = Keeps (g.S.Sink.stream l.fn.sink).bytes (g.S.Sink.stream l.sink).bytes × ((g.S.Sink.stream l.sink).failures ≡ (g.S.Sink.stream l.fn.sink).failures)

abbrev pub decreases-loop-count : goal.decreases-loop-count
decreases-loop-count g l = 2 ^ 64 - (g.S.Sink.stream l.sink).interruptions
