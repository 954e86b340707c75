use Rattle.std.proofs.Common.{[], ◌∷◌, subst, ap, ◌∙◌, refl, arith, Some, sym}
use Rattle.std.proofs.lemmas.Option.{slice_get-get_or}
use Rattle.std.specs.Prelude.{◌⊎◌}
use Rattle.host.specs.Streams.Stream.{counted}
use Rattle.host.specs.Answers.{file_of}
use Rattle.host.specs.Files.{Adds, File}
use Rattle.host.proofs.Stored.{one_more, one_or_none, this_output}
use Rattle.host.proofs.ending.write_files.Goals as goal

pub returns-in_default : goal.returns-in_default
returns-in_default g c = λ all are.
    let base = c.args.base.now in
    let k = c.loop-output.output-index in
    let output = c.output-item.result in
    let item = file_of output.file.now in
    let old = g.F.Files.folder c.args.files.now in
    let mid = g.F.Files.folder c.loop-output.files in
    let new = g.F.Files.folder c.write.new.self in
    let (lt, at, this) = this_output base all c.args.outputs.now k output c.deref.result.now c.deref-in-loop-output.result.now are (omega arith) c.output-item.is c.deref.ensures c.deref-in-loop-output.ensures.value in
    let so_far = c.loop-output.invariant all are in
    let said = c.in_default.ensures in
    let wrote = subst (λ (file : File). Adds mid new [] ⊎ Adds mid new (file ∷ [])) this said.0 in
    (k, item, slice_get-get_or all k item lt ∙ ap Some (sym at), refl, c.ending.ensures, one_or_none base all k item old mid new lt so_far.0 wrote, said.1 ∙ ap counted so_far.1)

pub loop-output-preserved : goal.loop-output-preserved
loop-output-preserved g c = λ all are.
    let base = c.args.base.now in
    let k = c.loop-output.output-index in
    let output = c.output-item.result in
    let item = file_of output.file.now in
    let old = g.F.Files.folder c.args.files.now in
    let mid = g.F.Files.folder c.loop-output.files in
    let new = g.F.Files.folder c.write.new.self in
    let (lt, at, this) = this_output base all c.args.outputs.now k output c.deref.result.now c.deref-in-loop-output.result.now are (omega arith) c.output-item.is c.deref.ensures c.deref-in-loop-output.ensures.value in
    let so_far = c.loop-output.invariant all are in
    let wrote = subst (λ (file : File). Adds mid new (file ∷ [])) this c.in-Ok.ensures.0 in
    (one_more base all k item old mid new lt so_far.0 wrote, c.in-Ok.ensures.1 ∙ so_far.1)
