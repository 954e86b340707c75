use Rattle.std.proofs.Common.{subst}
use Rattle.z80dev.specs.Making.{AsmWith}
use Rattle.host.specs.Ending.{EndsWithLines, effect_of}
use Rattle.z80dev.proofs.programs.making.asm_file.Goals as goal

pub returns : goal.returns
returns g c =
    let x = effect_of (g.F.Files.folder c.args.files.now) (g.F.Files.folder c.asm_with.new.files) (g.W.Sink.stream c.args.output.now) (g.W.Sink.stream c.asm_with.new.output) in
    subst (λ base. EndsWithLines (AsmWith base c.args.job.now x) c.asm_with.result) c.base_of-base.ensures c.asm_with.ensures
