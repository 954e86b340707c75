use Rattle.std.proofs.Common.{refl, subst}
use Rattle.host.specs.End.{Tells}
use Rattle.host.specs.Reporting.{Reports, JudgesBad}
use Rattle.z80dev.specs.Making.{LinkEnds}
use Rattle.host.specs.Ending.{ended}
use Rattle.z80dev.specs.Values.{bad_symbols}
use Rattle.host.specs.World.{world_of}
use Rattle.host.proofs.Defined.{goes_on, none_bad}
use Rattle.z80dev.proofs.programs.jobs.link_job.Goals as goal

pub returns : goal.returns
returns g c = λ input.
    let old = g.F.Files.folder c.args.files.now in
    let new = g.F.Files.folder c.link_files.new.files in
    let before = g.W.Sink.stream c.args.output.now in
    let after = g.W.Sink.stream c.link_files.new.output in
    let errors = g.E.Sink.stream c.args.errors.now in
    let mid = g.E.Sink.stream c.refuse_value.new.errors in
    let told = g.E.Sink.stream c.report_any.new.errors in
    let e = ended c.link_files.result in
    let judged = none_bad c.bad_symbols.result (bad_symbols c.args.job.now.symbols) errors mid (subst (JudgesBad c.bad_symbols.result errors mid) c.in_default.is c.refuse_value.ensures) c.bad_symbols.ensures in
    goes_on (bad_symbols c.args.job.now.symbols) (Reports (LinkEnds c.args.job.now)) (world_of old input before errors) (world_of new input after told) c.report_any.result judged.0
    (e, c.link_files.ensures, c.report_any.ensures.status, subst (λ s. Tells e s told) judged.1 c.report_any.ensures.told, refl)
