use Rattle.std.proofs.Common.{ap, inl, inr, map, refl}
use Rattle.std.specs.List.{concat}
use Rattle.z80dev_jobs.proofs.Running.Ran.{may_not_tell, may_tell, runs}
use Rattle.host.specs.Reading.{reader_of}
use Rattle.host.specs.World.{world_of}
use Rattle.z80dev_jobs.proofs.runs.jobs.run_job.Goals as goal

pub returns-in-Err-clause-ends : goal.returns-in-Err-clause-ends
returns-in-Err-clause-ends g c =
    let told = c.report-status.ensures in
    may_not_tell c.args.job.now _ _ c.report-status.result c.in-Err.end c.in-Err.ensures refl refl (refl, told.status, told.told)

pub returns-in-Err-inputs_of-clause-ends : goal.returns-in-Err-inputs_of-clause-ends
returns-in-Err-inputs_of-clause-ends g c =
    let told = c.report-status-in-Err-inputs_of.ensures in
    may_tell c.args.job.now _ _ c.report-status-in-Err-inputs_of.result c.in_default.field-0 c.in_default.ensures
    (inl (c.in-Err-inputs_of.end, c.in-Err-inputs_of.ensures.inputs, (refl, told.status, told.told)))

pub returns-in-Err-prepare-clause-ends : goal.returns-in-Err-prepare-clause-ends
returns-in-Err-prepare-clause-ends g c =
    let told = c.report-status-in-Err-prepare.ensures in
    may_tell c.args.job.now _ _ c.report-status-in-Err-prepare.result c.in_default.field-0 c.in_default.ensures
    (inr (
      c.in-Ok.inputs,
      g.F.Files.folder c.inputs_of.new.files,
      c.in-Ok.ensures.inputs,
      inl (c.in-Err-prepare.end, c.in-Err-prepare.ensures, refl, (refl, told.status, told.told)),
    ))

pub returns-clause-ends : goal.returns-clause-ends
returns-clause-ends g c =
    let inputs = c.in-Ok.inputs in
    let host = c.args.host in
    let claimed = g.F.Files.folder c.inputs_of.new.files in
    let known = c.in-Ok-prepare.prepared.1 in
    let prepared = c.in-Ok-prepare.ensures in
    let ran = c.run_telling-ran.result.0 in
    let told = c.run_telling-ran.result.1 in
    let words = map (λ word. word.now) c.deref.result.now in
    let rest = c.inputs_of.new.input in
    let old = world_of (g.F.Files.folder host.files) (reader_of (g.I.Input.remaining host.input) (g.I.Input.failed host.input) (g.I.Input.reads host.input) (g.I.Input.interruptions host.input)) (g.W.Sink.stream host.output) (g.E.Sink.stream host.errors) in
    let new = world_of (g.F.Files.folder c.end_run-status.new.files) (reader_of (g.I.Input.remaining rest) (g.I.Input.failed rest) (g.I.Input.reads rest) (g.I.Input.interruptions rest))
    (g.W.Sink.stream c.end_run-status.new.ran.output) (g.E.Sink.stream c.end_run-status.new.errors) in
    may_tell c.args.job.now old new c.end_run-status.result c.in_default.field-0 c.in_default.ensures
    (inr (
      inputs,
      claimed,
      c.in-Ok.ensures.inputs,
      inr (
        known,
        prepared.1,
        runs c.args.job.now known inputs claimed old new c.end_run-status.result words c.unwrap_or-steps.result _ ran.why ran.turns ran.pc (concat ran.image) (g.W.Sink.stream ran.output) told
            (ap (map (λ word. word.now)) c.deref.ensures.value) c.unwrap_or-steps.ensures c.as_deref-listing.ensures.value
            (c.run_telling-ran.ensures.ran inputs.program.items words inputs.image.items inputs.typed.items prepared.0) (c.run_telling-ran.ensures.told inputs.program.items words inputs.image.items inputs.typed.items prepared.0)
            c.end_run-status.ensures,
      ),
    ))
