use Rattle.std.proofs.Common.{subst}
use Rattle.host.specs.Reporting.{ReportsLines, TellsAtEnd, JudgesBad}
use Rattle.z80dev.specs.Making.{AsmEnds}
use Rattle.host.specs.Ending.{end_with_lines, lines_after}
use Rattle.z80dev.specs.Values.{bad_define}
use Rattle.host.specs.World.{world_of}
use Rattle.host.proofs.Defined.{goes_on, none_bad}
use Rattle.z80dev.proofs.Lined.{reported_lined}
use Rattle.z80dev.proofs.programs.jobs.asm_job.Goals as goal

pub returns : goal.returns
returns g c = λ input.
    let old = g.F.Files.folder c.args.files.now in
    let new = g.F.Files.folder c.asm_file.new.files in
    let before = g.W.Sink.stream c.args.output.now in
    let after = g.W.Sink.stream c.asm_file.new.output in
    let errors = g.E.Sink.stream c.args.errors.now in
    let mid = g.E.Sink.stream c.refuse_value.new.errors in
    let told = g.E.Sink.stream c.report_lines.new.errors in
    let ended = c.asm_file.result in
    let judged = none_bad c.bad_define.result (bad_define c.args.job.now.shared) errors mid (subst (JudgesBad c.bad_define.result errors mid) c.in_default.is c.refuse_value.ensures) c.bad_define.ensures in
    let tells = subst (λ s. TellsAtEnd (lines_after ended) (end_with_lines ended) s told) judged.1 c.report_lines.ensures.told in
    let Ends = AsmEnds c.args.job.now in
    goes_on (bad_define c.args.job.now.shared) (ReportsLines Ends) (world_of old input before errors) (world_of new input after told) c.report_lines.result judged.0
    (reported_lined Ends old new input before after errors told ended c.report_lines.result c.asm_file.ensures c.report_lines.ensures.status tells)
