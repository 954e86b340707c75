use Rattle.std.proofs.Common.{refl}
use Rattle.z80dev.specs.Disks.{DiskJobEnds}
use Rattle.host.specs.Ending.{ended}
use Rattle.host.specs.Reading.{reader_of}
use Rattle.z80dev_jobs.proofs.Reported.{reported}
use Rattle.z80dev_jobs.proofs.dispatch.work.Goals.{in-Pipe, in-Asm, in-Link, in-Build, in-Explain, in-Check, in-Dis, in-Disk, in-Debug}
use Rattle.z80dev_jobs.proofs.dispatch.work.Goals as goal

pub returns-in-Run-clause-ends : goal.returns-in-Run-clause-ends
returns-in-Run-clause-ends g c = rw c.in-Run.is c.run_job.ensures.ends

pub returns-in-Play-clause-ends : goal.returns-in-Play-clause-ends
returns-in-Play-clause-ends g c = rw c.in-Play.is c.play_job.ensures.ends

pub returns-clause-ends : goal.returns-clause-ends
returns-clause-ends g c =
    let old = g.F.Files.folder c.args.host.files in
    let reader = reader_of (g.I.Input.remaining c.args.host.input) (g.I.Input.failed c.args.host.input) (g.I.Input.reads c.args.host.input) (g.I.Input.interruptions c.args.host.input) in
    let before = g.W.Sink.stream c.args.host.output in
    let errors = g.E.Sink.stream c.args.host.errors in
    elim c.match-job.branch [
      | in-Pipe w ↦ rw (w.in-Pipe.is, w.host-is, w.status-is) (refl, w.pipe-status.ensures.ends)
      | in-Asm w ↦ rw (w.in-Asm.is, w.host-is, w.status-is) (w.asm_job-status.ensures reader)
      | in-Link w ↦ rw (w.in-Link.is, w.host-is, w.status-is) (w.link_job-status.ensures reader)
      | in-Build w ↦ rw (w.in-Build.is, w.host-is, w.status-is) (w.build_job-status.ensures reader)
      | in-Explain w ↦ rw (w.in-Explain.is, w.host-is, w.status-is) (w.explain_job-status.ensures reader)
      | in-Check w ↦ rw (w.in-Check.is, w.host-is, w.status-is) (ended w.check_files-end.result, w.check_files-end.ensures, w.report_any-status.ensures.status, w.report_any-status.ensures.told, refl)
      | in-Dis w ↦ rw (w.in-Dis.is, w.host-is, w.status-is) (ended w.dis_file-end.result, w.dis_file-end.ensures, w.report_any-status-in-Dis.ensures.status, w.report_any-status-in-Dis.ensures.told, refl)
      | in-Disk w ↦ rw (w.in-Disk.is, w.host-is, w.status-is)
          (reported (DiskJobEnds w.in-Disk.job) old (g.F.Files.folder w.do_on_disk-ended.new.files) reader before (g.W.Sink.stream w.do_on_disk-ended.new.output) errors (g.E.Sink.stream w.report_line-status.new.errors) w.do_on_disk-ended.result w.report_line-status.result w.do_on_disk-ended.ensures w.report_line-status.ensures.status w.report_line-status.ensures.told)
      | in-Debug w ↦ rw (w.in-Debug.is, w.host-is, w.status-is) w.debug_job-status.ensures.ends
    ]
