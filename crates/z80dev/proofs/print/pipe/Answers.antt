use Rattle.z80dev.proofs.Ends.{of_text}
use Rattle.z80dev.proofs.Reported.{reported}
use Rattle.z80dev.proofs.print.pipe.Goals as goal

pub returns-in-Err-clause-ends : goal.returns-in-Err-clause-ends
returns-in-Err-clause-ends g c =
    of_text (g.I.Input.remaining c.args.input.now) _ _ c.in-Err.ensures.ends
    (λ text ends. reported text _ (g.W.Sink.stream c.args.output.now) (g.W.Sink.stream c.print_file.new.output) c.report.result (g.E.Sink.stream c.args.errors.now) (g.E.Sink.stream c.report.new.errors) c.in-Err.fault c.end_of.result ends c.end_of.ensures c.report.ensures.status c.report.ensures.told)
