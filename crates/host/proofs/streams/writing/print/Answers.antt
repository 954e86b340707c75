use Rattle.host.proofs.PartWritten.{handed_on}
use Rattle.host.proofs.streams.writing.print.Goals as goal

pub returns : goal.returns
returns g c =
    handed_on (g.S.Sink.stream c.args.sink.now) (g.S.Sink.stream c.put.new.sink) (g.S.Sink.stream c.flush.new.sink) c.args.bytes.now c.flush.result c.in_ok-put.ensures c.flush.ensures
