use Rattle.std.proofs.Common.{inl, inr, refl, sym, ◌∙◌}
use Rattle.host.specs.Streams.Writing.{error_line}
use Rattle.host.proofs.Carried.{put_so}
use Rattle.z80dev_jobs.proofs.dispatch.refuse_words.Goals as goal

pub returns : goal.returns
returns g c =
    let old = g.E.Sink.stream c.args.errors.now in
    let new = g.E.Sink.stream c.tell.new.sink in
    let kind = c.kind.ensures in
    let bytes = c.as_bytes-in_default-kind.result.now in
    inl (inr (
      (λ asks. elim asks [ inl h ↦ c.in_default-kind.not-DisplayHelp (kind ∙ h) | inr v ↦ c.in_default-kind.not-DisplayVersion (kind ∙ v) ]),
      (λ none. c.in_default-kind.not-OutOfMemory (kind ∙ none)),
      (refl, refl, bytes, (λ none. c.reason_of.ensures (sym c.as_bytes-in_default-kind.ensures.value ∙ none)), put_so old new (error_line bytes) c.tell.result c.tell.ensures),
    ))
