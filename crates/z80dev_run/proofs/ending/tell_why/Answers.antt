use Rattle.std.proofs.Common.{◌∙◌, inl, inr, subst}
use Rattle.host.specs.Streams.Writing.{Puts}
use Rattle.z80dev_run.proofs.ending.tell_why.Goals as goal

pub returns-in-Ok : goal.returns-in-Ok
returns-in-Ok g c =
    let old = g.E.Sink.stream c.args.errors.now in
    let new = g.E.Sink.stream c.put.new.sink in
    inl (c.put.result, subst (λ bytes. Puts old new bytes c.put.result) (c.deref.ensures.value ∙ c.in-Ok.ensures) c.put.ensures)

pub returns-in-Err : goal.returns-in-Err
returns-in-Err g c = inr (c.tell.result, c.tell.ensures)
