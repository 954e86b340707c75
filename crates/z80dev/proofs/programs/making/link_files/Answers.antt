use Rattle.std.proofs.Common.{◌∙◌, ap, map, subst}
use Rattle.z80dev.specs.Making.{LinksWith}
use Rattle.z80dev.specs.Outputs.{base_of}
use Rattle.host.specs.Ending.{effect_of, ended}
use Rattle.z80dev.proofs.programs.making.link_files.Goals as goal

pub returns : goal.returns
returns g c =
    let job = c.args.job.now in
    let x = effect_of (g.F.Files.folder c.args.files.now) (g.F.Files.folder c.link_with.new.files) (g.W.Sink.stream c.args.output.now) (g.W.Sink.stream c.link_with.new.output) in
    let same_base = c.base_of-base.ensures ∙ ap (λ files. base_of job.out (map (λ path. path.now) files)) c.deref.ensures.value in
    subst (λ base. LinksWith base job x (ended c.link_with.result)) same_base c.link_with.ensures
