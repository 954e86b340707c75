use Rattle.std.proofs.Common.{inl, refl, subst, ◌∙◌}
use Rattle.host.specs.End.{IsPut}
use Rattle.host.specs.Streams.Writing.{error_line}
use Rattle.host.proofs.Carried.{put_so}
use Rattle.z80dev_jobs.proofs.dispatch.refuse_fault.Goals as goal

pub returns-in-Ok : goal.returns-in-Ok
returns-in-Ok g c =
    let old = g.E.Sink.stream c.args.errors.now in
    let new = g.E.Sink.stream c.tell.new.sink in
    let put = put_so old new (error_line c.as_bytes.result.now) c.tell.result c.tell.ensures in
    rw c.in-NotText.is
    (inl (refl, refl, subst (λ text. IsPut old new (error_line text)) (c.as_bytes.ensures.value ∙ c.in-Ok.ensures.ok) put))
