use Rattle.std.proofs.Common.{◌≡◌, ◌-◌, ◌^◌}
use Rattle.std.specs.Io.KnownBytes.{Keeps}
use Rattle.host.proofs.streams.writing.flush.Given as goal

abbrev pub invariant-loop : goal.invariant-loop
invariant-loop g l = Keeps (g.S.Sink.stream l.fn.sink).bytes (g.S.Sink.stream l.sink).bytes × ((g.S.Sink.stream l.sink).failures ≡ (g.S.Sink.stream l.fn.sink).failures)

abbrev pub decreases-loop : goal.decreases-loop
decreases-loop g l = 2 ^ 64 - (g.S.Sink.stream l.sink).interruptions
