use Rattle.std.proofs.Common.{◌++◌, map, subst}
use Rattle.std.proofs.lemmas.Result.{IfOk-weaker}
use Rattle.report_texts.specs.Private.Steps.{AreNamed}
use Rattle.report_texts.proofs.Named.{are_behind}
use Rattle.report_texts.proofs.behind.sources_behind.Goals as goal

pub returns : goal.returns
returns c =
    let files = c.args.files.now in
    IfOk-weaker c.named.result _ _
    (λ sources is. are_behind c.args.front files sources.items (subst (λ all. AreNamed (map (λ file. file.path.now) files) all sources.items) c.requires is))
    c.named.ensures
