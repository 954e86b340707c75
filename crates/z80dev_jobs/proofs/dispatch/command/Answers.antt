use Rattle.std.proofs.Common.{◌≡◌, inl, map, true, refl, string_bytes, subst}
use Rattle.clap.specs.Words.{HasKind, fault_of, kind_of, takes}
use Rattle.clap.specs.declared.error.kind.ErrorKind.TheVariants as kind
use Rattle.std.specs.Prelude.{◌⊎◌}
use Rattle.z80dev_commands.specs.Commands.{HasRightCount, IsJob, IsMiscounted, z80dev}
use Rattle.host.specs.Reading.{reader_of}
use Rattle.host.specs.World.{world_of}
use Rattle.z80dev_jobs.proofs.Refused.{has_user, refused}
use Rattle.z80dev_jobs.proofs.dispatch.command.Goals as goal

pub returns-in-Ok-commands-clause-ends : goal.returns-in-Ok-commands-clause-ends
returns-in-Ok-commands-clause-ends g c =
    inl (
      map string_bytes c.in-Ok.texts.items,
      c.in-Ok-commands.job,
      c.in-Ok.ensures,
      subst (λ texts. IsJob (map string_bytes texts) c.in-Ok-commands.job) c.deref.ensures.value c.in-Ok-commands.ensures.job,
      c.work.ensures.ends,
    )

pub returns-clause-ends : goal.returns-clause-ends
returns-clause-ends g c =
    let words = map (λ word. word.items) c.args.words.now in
    let files = g.F.Files.folder c.args.host.files in
    let reader = (reader_of (g.I.Input.remaining c.args.host.input) (g.I.Input.failed c.args.host.input) (g.I.Input.reads c.args.host.input) (g.I.Input.interruptions c.args.host.input)) in
    let old = world_of files reader (g.W.Sink.stream c.args.host.output) (g.E.Sink.stream c.args.host.errors) in
    let new = world_of files reader (g.W.Sink.stream c.refuse_words-status.new.output) (g.E.Sink.stream c.refuse_words-status.new.errors) in
    let why = c.in-Err-commands.ensures in
    let texts = map string_bytes c.in-Ok.texts.items in
    refused words texts c.args.host.is_terminal (kind_of c.in-Err-commands.error) old new c.refuse_words-status.result c.in-Ok.ensures (record { folder = refl; input = refl })
    (subst (λ ts. HasKind (fault_of z80dev (map string_bytes ts)) c.in-Err-commands.error ⊎ IsMiscounted (map string_bytes ts) (kind_of c.in-Err-commands.error)) c.deref.ensures.value why.refused)
    (subst (λ ts. takes z80dev (map string_bytes ts) ≡ true → HasRightCount (map string_bytes ts) → kind_of c.in-Err-commands.error ≡ kind.OutOfMemory) c.deref.ensures.value why.taken) c.refuse_words-status.ensures

pub work-requires-clause-user : goal.work-requires-clause-user
work-requires-clause-user g c = has_user (map string_bytes c.deref.result.now) c.in-Ok-commands.job c.in-Ok-commands.ensures.job
