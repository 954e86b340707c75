use Rattle.host.proofs.PartWritten.{more}
use Rattle.host.proofs.streams.writing.put.Goals as goal

pub loop-rest-preserved : goal.loop-rest-preserved
loop-rest-preserved g c =
    let wrote = c.in_ok-count.ensures in
    more (g.S.Sink.stream c.args.sink.now) (g.S.Sink.stream c.loop-rest.sink) (g.S.Sink.stream c.put_some.new.sink) c.args.bytes.now c.loop-rest.rest.now c.in_ok-count.count
    c.loop-rest.invariant wrote.1 wrote.2 wrote.3
