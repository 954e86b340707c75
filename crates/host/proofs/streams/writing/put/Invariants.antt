use Rattle.std.proofs.Common.{length}
use Rattle.host.proofs.PartWritten.{Written}
use Rattle.host.proofs.streams.writing.put.Given as goal

abbrev pub invariant-loop-rest : goal.invariant-loop-rest
invariant-loop-rest g l = Written (g.S.Sink.stream l.fn.sink) (g.S.Sink.stream l.sink) l.bytes l.rest

abbrev pub decreases-loop-rest : goal.decreases-loop-rest
decreases-loop-rest g l = length l.rest
