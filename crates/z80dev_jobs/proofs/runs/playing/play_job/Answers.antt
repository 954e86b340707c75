use Rattle.std.proofs.Common.{subst}
use Rattle.z80dev_jobs.specs.Runs.Playing.{PlayEndsWith, bad_in_play}
use Rattle.host.specs.Reporting.{JudgesBad}
use Rattle.host.specs.Reading.{reader_of}
use Rattle.host.specs.World.{world_of}
use Rattle.host.proofs.Defined.{goes_on, none_bad}
use Rattle.z80dev_jobs.proofs.runs.playing.play_job.Goals as goal

pub returns-clause-ends : goal.returns-clause-ends
returns-clause-ends g c =
    let job = c.args.job.now in
    let host = c.args.host in
    let left = c.play.result.host in
    let reader = reader_of (g.I.Input.remaining host.input) (g.I.Input.failed host.input) (g.I.Input.reads host.input) (g.I.Input.interruptions host.input) in
    let rest = reader_of (g.I.Input.remaining left.input) (g.I.Input.failed left.input) (g.I.Input.reads left.input) (g.I.Input.interruptions left.input) in
    let old = g.F.Files.folder host.files in
    let before = g.W.Sink.stream host.output in
    let errors = g.E.Sink.stream host.errors in
    let mid = g.E.Sink.stream c.refuse_value.new.errors in
    let new = world_of (g.F.Files.folder left.files) rest (g.W.Sink.stream left.output) (g.E.Sink.stream left.errors) in
    let judged = none_bad c.bad_in_play.result (bad_in_play job) errors mid (subst (JudgesBad c.bad_in_play.result errors mid) c.in_default.is c.refuse_value.ensures) c.bad_in_play.ensures in
    goes_on (bad_in_play job) (PlayEndsWith job) (world_of old reader before errors) new c.play.result.status judged.0
    (subst (λ s. PlayEndsWith job (world_of old reader before s) new c.play.result.status) judged.1 c.play.ensures.ends)
