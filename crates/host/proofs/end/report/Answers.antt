use Rattle.host.specs.End.{end_text}
use Rattle.host.proofs.Told.{told}
use Rattle.host.proofs.end.report.Goals as goal

pub returns-clause-told : goal.returns-clause-told
returns-clause-told g c = told (end_text c.args.end.now) (g.E.Sink.stream c.args.errors.now) (g.E.Sink.stream c.tell_end.new.errors) c.tell_end.result c.tell_end.ensures
